-- What a request over a client that keeps its connections wrote to one and read from it, by its result.
use Rattle.std.specs.Prelude.{◌≡◌, ℕ, Bool, true, false, ◌⊎◌, ⊤, List, [], ◌∷◌, ◌++◌, map, codes, string_bytes, option_to_list}
use Rattle.std.specs.Prelude.{Option, Some, IfSome, Result, Ok, Err}
use Rattle.std.specs.declared.io.Error as Io
use Rattle.http_uri.specs.declared.uri.Uri.{Uri}
use Rattle.http_uri.specs.Uri.{SpellsNone}
use Rattle.http.specs.Request.{head_of, body_of}
use Rattle.http1.specs.declared.conn.Limits.{Limits}
use Rattle.http1.specs.ServerTrace.{SeenRequest}
use Rattle.oauth2_json.specs.Reading.{fault_of}
use Rattle.oauth2_form.specs.Pairs.{form}
use Rattle.oauth2_form.specs.Basic.{basic}
use Rattle.oauth2_wire.specs.ByName.{ReadsByName}
use Rattle.oauth2_wire.specs.Expected.{Configuration, expected_basic, expected_pairs}
use Rattle.oauth2_wire.specs.Once.{AsksOnce, not_http_text}
use Rattle.oauth2_wire.specs.Reply.{HttpResponse, ReplyView, Answer, accepted, refused, unread, other, reply_of}
use Rattle.oauth2_wire.specs.Request.{HttpRequest, IsRequestOf, view_of}
use Rattle.oauth2_wire.specs.declared.error.RequestTokenError.{RequestTokenError}
use Rattle.oauth2_wire.specs.declared.error.RequestTokenError.TheVariants as token
use Rattle.oauth2_http1.specs.declared.error.Http1Error.TheVariants as Error
use Rattle.oauth2_http1.specs.declared.fault.MessageFault.{MessageFault}
use Rattle.oauth2_http1.specs.declared.fault.MessageFault.TheVariants as Fault
use Rattle.oauth2_http1.specs.declared.fault.ReplyFault.{ReplyFault}
use Rattle.oauth2_http1.specs.Client.{reply_terms}
use Rattle.oauth2_http1.specs.FromBytes.{BeginsWith}
use Rattle.oauth2_http1.specs.Law.{values}
use Rattle.oauth2_http1.specs.Message.{ReadsOnly, Takes, head_text, kept_fields, seen_request}
use Rattle.oauth2_http1.specs.Origin.{Place, host_text, origin_form}
use Rattle.oauth2_http1_connections.specs.Client.{agent_of, IsSetAs, CannotSend, CanSend, FailsToOpen, Answers, GetsNoReply, FailsToWrite, Calls}
use Rattle.oauth2_http1_connections.specs.Exchange.{Writes}
use Rattle.oauth2_http1_connections.specs.Idle.{without}
use Rattle.oauth2_http1_connections.specs.Law.{HasHistory, EachHasHistory, Follows}
use Rattle.oauth2_http1_connections.specs.declared.client.KeepAliveClient.{KeepAliveClient}
use Rattle.oauth2_http1_connections.specs.declared.error.KeepAliveError.{KeepAliveError}
use Rattle.oauth2_http1_connections.specs.declared.error.KeepAliveError.TheVariants.{Http1, Unanswered}

-- the request that a server reads is the configured one, and does not end the connection (RFC 9112,
-- 9.3)
pub record CarriesConfigured (c : Configuration) (agent : Option (List ℕ)) (place : Place) (uri : Uri) (seen : SeenRequest) : Type 0 where
  pub method : seen.method ≡ codes "POST"
  pub target : seen.target ≡ origin_form uri
  pub host : values seen (codes "host") ≡ host_text place ∷ []
  pub connection : values seen (codes "connection") ≡ []
  pub content_type : values seen (codes "content-type") ≡ codes "application/x-www-form-urlencoded" ∷ []
  pub accept : values seen (codes "accept") ≡ codes "application/json" ∷ []
  pub accept_encoding : values seen (codes "accept-encoding") ≡ codes "identity" ∷ []
  pub user_agent : values seen (codes "user-agent") ≡ option_to_list agent
  -- each Authorization value, as a server decodes it: the configured credentials, or no value
  pub authorization : map basic (values seen (codes "authorization")) ≡ map Some (option_to_list (expected_basic c))
  pub by_name : ReadsByName c (form seen.body.bytes)
  pub form : form seen.body.bytes ≡ expected_pairs c
  pub trailers : seen.body.trailers ≡ []

-- the bytes of the head of a request over a kept connection: no `Connection: close` is added, and
-- `agent` is the User-Agent of the client, if it sends one
abbrev pub kept_head : Option (List ℕ) → Place → HttpRequest → List ℕ
kept_head agent place r =
    head_text (head_of r).method (origin_form (head_of r).uri)
    (kept_fields agent place (head_of r).headers) (body_of r).items

-- the request that a server reads from the bytes of that head and of the body
abbrev pub kept_seen : Option (List ℕ) → Place → HttpRequest → SeenRequest
kept_seen agent place r =
    seen_request (head_of r).method (origin_form (head_of r).uri)
    (kept_fields agent place (head_of r).headers) (body_of r).items

-- every server that takes the head reads the bytes, whatever follows them, as one request and in
-- only one way; that request is the configured one
abbrev pub AreReadAs : Configuration → Option (List ℕ) → Place → HttpRequest → List ℕ → Type 0
AreReadAs c agent place r bytes =
    ((limits : Limits) (rest : List ℕ) → Takes limits (kept_head agent place r) → ReadsOnly limits (bytes ++ rest) (kept_seen agent place r) rest)
    × CarriesConfigured c agent place (head_of r).uri (kept_seen agent place r)

-- why a configured request cannot be sent; it is a POST that leaves its framing to the client, so
-- two of the faults cannot occur
abbrev pub CannotPost : Option (List ℕ) → MessageFault → HttpRequest → Type 0
CannotPost agent Fault.OwnFraming request = ⊥
CannotPost agent Fault.Connect request = ⊥
CannotPost agent fault request = CannotSend agent fault request

module _ {C S E : Type 0} (opens : C → Place → Result S E → C → Type 0) (looks : S → Bool → S → Type 0) (contents remaining : S → Option (List ℕ))
    (reads writes : S → Result ℕ Io.Error → S → Type 0) (flushes : S → Result ⊤ Io.Error → S → Type 0)
    (c : Configuration) (text : List ℕ) where
  -- what was written to the connection `stream` is the configured request, as a server reads it; it
  -- is the next message of the connection, which was `taken` before, whatever it carried since it was
  -- opened
  pub record IsConfigured (before : KeepAliveClient C S) (request : HttpRequest) (place : Place) (taken stream sent : S)
      (wrote : Writes contents remaining reads writes flushes (agent_of before) before.bounds place request stream sent) : Type 0 where
    pub is : IsRequestOf c text (view_of request)
    pub read_as : AreReadAs c (agent_of before) place request wrote.bytes
    pub follows : (history : HasHistory opens looks contents remaining reads writes flushes place taken)
        → Follows opens looks contents remaining reads writes flushes place taken history wrote.bytes
        sent

  -- the request was sent, and `Says` holds of the reply: the one that begins what remained then on
  -- this connection, and is the next message behind the replies to earlier requests
  pub record Replied (before after : KeepAliveClient C S) (Says : ReplyView → Type 0) : Type 0 where
    pub request : HttpRequest
    pub response : HttpResponse
    pub answers : Answers opens looks contents remaining reads writes flushes before request response after
    pub configured : IsConfigured before request answers.place answers.gets.taken answers.stream answers.exchange.sent answers.exchange.wrote
    pub says : Says (reply_of response)
    pub came : IfSome (remaining answers.exchange.sent) (BeginsWith (reply_terms before.bounds (codes "POST")) (reply_of response))

  -- the request was sent, and no reply was read
  pub record Unread (before : KeepAliveClient C S) (fault : ReplyFault) (used came : Bool) (after : KeepAliveClient C S) : Type 0 where
    pub request : HttpRequest
    pub gets_none : GetsNoReply opens looks contents remaining reads writes flushes before request fault used came after
    pub configured : IsConfigured before request gets_none.place gets_none.gets.taken gets_none.stream gets_none.sent gets_none.wrote

  -- a write of the request failed
  abbrev pub Unwritten : KeepAliveClient C S → Io.Error → Bool → KeepAliveClient C S → Type 0
  Unwritten before error used after =
      (request : HttpRequest) × IsRequestOf c text (view_of request)
      × FailsToWrite opens looks contents remaining reads writes flushes before request error used after

  -- by the error of the client: nothing was written, a write failed, or no reply was read; a POST
  -- that was not answered may not be sent again (RFC 9110, 9.2.2)
  abbrev pub NotReplied : KeepAliveClient C S → KeepAliveError E → KeepAliveClient C S → Type 0
  NotReplied before (Http1 (Error.Request fault)) after =
      (after.connect ≡ before.connect) × (after.idle.kept.items ≡ before.idle.kept.items)
      × (request : HttpRequest) × IsRequestOf c text (view_of request) × CannotPost (agent_of before) fault request
  NotReplied before (Http1 (Error.Connect error)) after =
      (request : HttpRequest) × IsRequestOf c text (view_of request)
      × (place : Place) × CanSend (agent_of before) request place × FailsToOpen opens looks contents remaining place before error after
      × (after.idle.kept.items ≡ without place before.idle.kept.items)
  NotReplied before (Http1 (Error.Write error)) after = Unwritten before error false after
  NotReplied before (Http1 (Error.Reply fault)) after =
      (used : Bool) × (came : Bool) × (used ≡ true
      → came ≡ true) × Unread before fault used came after
  NotReplied before (Unanswered (Error.Request fault) again) after = ⊥
  NotReplied before (Unanswered (Error.Connect error) again) after = ⊥
  NotReplied before (Unanswered (Error.Write error) again) after =
      (again ≡ false) × Unwritten before error true after
  NotReplied before (Unanswered (Error.Reply fault) again) after =
      (again ≡ false) × Unread before fault true false after

  module _ {D A T X : Type 0} (meaning : D → A) (error_meaning : T → X) (says : ReplyView → Answer A X) where
    -- by the result: a value (RFC 6749, 5.1), an error response (5.2) and a fault of the body are
    -- what the received reply says; the other results say whether the request was sent
    abbrev pub FromKeptBytes : KeepAliveClient C S
        → Result D (RequestTokenError (KeepAliveError E) T) → KeepAliveClient C S → Type 0
    FromKeptBytes before (Ok value) after =
        Replied before after (λ view. says view ≡ accepted (meaning value))
    FromKeptBytes before (Err (token.ServerResponse error)) after =
        Replied before after (λ view. says view ≡ refused (error_meaning error))
    FromKeptBytes before (Err (token.Parse fault body)) after =
        Replied before after (λ view. says view ≡ unread (fault_of fault) body.items)
    FromKeptBytes before (Err (token.Other what)) after =
        Replied before after (λ view. says view ≡ other (string_bytes what))
        ⊎ ((after ≡ before) × SpellsNone text × (string_bytes what ≡ not_http_text))
    FromKeptBytes before (Err (token.Request error)) after = NotReplied before error after
    FromKeptBytes before (Err (token.Memory true)) after = Replied before after (λ view. ⊤)
    FromKeptBytes before (Err (token.Memory false)) after = after ≡ before

    -- the bytes by the result; the settings stay, and each idle connection has a history again
    pub record KeptResult (before : KeepAliveClient C S) (result : Result D (RequestTokenError (KeepAliveError E) T)) (after : KeepAliveClient C S) : Type 0 where
      pub bytes : FromKeptBytes before result after
      pub set : IsSetAs before after
      pub histories : EachHasHistory opens looks contents remaining reads writes flushes before
          → EachHasHistory opens looks contents remaining reads writes flushes after

-- `KeptResult` holds of the result of each request that meets its contract over this client
module _ {C S E : Type 0} (opens : C → Place → Result S E → C → Type 0) (looks : S → Bool → S → Type 0) (contents remaining : S → Option (List ℕ))
    (reads writes : S → Result ℕ Io.Error → S → Type 0) (flushes : S → Result ⊤ Io.Error → S → Type 0)
    {D A T X : Type 0} (meaning : D → A) (error_meaning : T → X) where
  abbrev pub EachIsFromKeptBytes : Type 0
  EachIsFromKeptBytes =
      (c : Configuration) (text : List ℕ) (says : ReplyView
      → Answer A X) (before after : KeepAliveClient C S)
      (result : Result D (RequestTokenError (KeepAliveError E) T))
      → AsksOnce meaning error_meaning
      (λ before request answer after. IsSetAs before after × Calls opens looks contents remaining reads writes flushes before request answer after)
      says (IsRequestOf c) text before result after
      → KeptResult opens looks contents remaining reads writes flushes c text meaning error_meaning says
      before result after
