-- The bytes that a request over an HTTP/1.1 client wrote and read, by its result.
use Rattle.std.specs.Prelude.{◌≡◌, ℕ, ◌≤◌, ◌⊎◌, ⊤, true, false, List, length, codes, string_bytes, map}
use Rattle.std.specs.Prelude.{Option, option_map, IfSome, Result, Ok, Err}
use Rattle.std.specs.declared.io.Error as Io
use Rattle.http_header.specs.HeaderMap.{get}
use Rattle.http_uri.specs.Uri.{SpellsNone}
use Rattle.httparse.specs.Grammar.{status_code}
use Rattle.httparse.specs.Spans.{name_and_value}
use Rattle.http1.specs.Message.{Response}
use Rattle.oauth2_json.specs.Reading.{fault_of}
use Rattle.oauth2_wire.specs.Expected.{Configuration}
use Rattle.oauth2_wire.specs.Once.{AsksOnce, not_http_text}
use Rattle.oauth2_wire.specs.Reply.{ReplyView, Answer, accepted, refused, unread, other}
use Rattle.oauth2_wire.specs.Request.{HttpRequest, IsRequestOf, view_of}
use Rattle.oauth2_wire.specs.declared.error.RequestTokenError.{RequestTokenError}
use Rattle.oauth2_wire.specs.declared.error.RequestTokenError.TheVariants as token
use Rattle.oauth2_http1.specs.declared.client.Http1Client.{Http1Client}
use Rattle.oauth2_http1.specs.declared.error.Http1Error.{Http1Error}
use Rattle.oauth2_http1.specs.declared.error.Http1Error.TheVariants as http
use Rattle.oauth2_http1.specs.declared.fault.MessageFault.{MessageFault}
use Rattle.oauth2_http1.specs.declared.fault.MessageFault.TheVariants as Fault
use Rattle.oauth2_http1.specs.Origin.{Place}
use Rattle.oauth2_http1.specs.Law.{AreReadAs}
use Rattle.oauth2_http1.specs.Reply.{Terms, ReadsReply, entries_of}
use Rattle.oauth2_http1.specs.Calls.{ReadFails, Sends}
use Rattle.oauth2_http1.specs.Client.{Writes, Opens, Exchanges, CanSend, CannotSend, NoReply, reply_terms}

-- the view of a parsed reply: its status, its first Content-Type value (RFC 9110, 8.3) and its body
abbrev pub view_of_reply : Response → ReplyView
view_of_reply m = record {
  status = status_code m.head;
  content_type =
      option_map (λ value. value.bytes)
      (get (entries_of (map name_and_value m.head.fields)) (codes "content-type"));
  body = m.body.bytes;
}

-- the stream begins with one reply, which has this view, after responses of status 1xx; it can be
-- read in no other way (RFC 9112, 4 and 6.3; RFC 9110, 15.2)
pub record BeginsWith (t : Terms) (view : ReplyView) (stream : List ℕ) : Type 0 where
  pub reply : Response
  pub rest : List ℕ
  pub reads : ReadsReply t stream reply rest
  pub only : (another : Response) (after : List ℕ) → ReadsReply t stream another after
      → (another ≡ reply) × (after ≡ rest)
  pub is : view ≡ view_of_reply reply

-- why a configured request cannot be sent; it is a POST that leaves its framing to the client, so
-- two of the faults cannot occur
abbrev pub CannotPost : MessageFault → HttpRequest → Type 0
CannotPost Fault.OwnFraming request = ⊥
CannotPost Fault.Connect request = ⊥
CannotPost fault request = CannotSend fault request

module _ {C S E : Type 0} (opens : C → Place → Result S E → C → Type 0) (contents remaining : S → Option (List ℕ))
    (reads writes : S → Result ℕ Io.Error → S → Type 0) (flushes : S → Result ⊤ Io.Error → S → Type 0)
    (c : Configuration) (text : List ℕ) where
  -- the configured request was written once and whole on one connection, which was opened to the
  -- place that the endpoint names; a server reads the bytes only as this request (RFC 9112, 3 and
  -- 6; RFC 6749, 2.3.1)
  pub record SendsBytes (before : Http1Client C) (sent : S) (after : Http1Client C) : Type 0 where
    pub request : HttpRequest
    pub is : IsRequestOf c text (view_of request)
    pub wrote : Writes opens contents remaining reads writes flushes before.connect request sent after.connect
    pub read_as : AreReadAs c wrote.place request wrote.bytes
    pub bounds : after.bounds ≡ before.bounds

  -- the request was sent, a reply with this view was received, and `Says` holds of the view
  pub record Replied (before after : Http1Client C) (Says : ReplyView → Type 0) : Type 0 where
    pub sent : S
    pub sends : SendsBytes before sent after
    pub view : ReplyView
    pub says : Says view
    pub within : length view.body ≤ before.bounds.max_body
    pub came : IfSome (remaining sent) (BeginsWith (reply_terms before.bounds (codes "POST")) view)

  -- by the error of the client: the request was not sent, a write failed, or no reply was read
  abbrev pub NotReplied : Http1Client C → Http1Error E → Http1Client C → Type 0
  NotReplied before (http.Request fault) after =
      (after ≡ before) × (request : HttpRequest) × IsRequestOf c text (view_of request) × CannotPost fault request
  NotReplied before (http.Connect error) after =
      (after.bounds ≡ before.bounds) × (request : HttpRequest) × IsRequestOf c text (view_of request)
      × Opens opens contents remaining reads writes flushes before.connect request (Err error)
      after.connect
      × CanSend request
  NotReplied before (http.Write error) after =
      (after.bounds ≡ before.bounds) × (request : HttpRequest) × IsRequestOf c text (view_of request)
      × (opened : S) × Opens opens contents remaining reads writes flushes before.connect request (Ok opened) after.connect
      × CanSend request × (left : S) × Sends writes flushes (Err error) opened left
  NotReplied before (http.Reply fault) after =
      (sent : S) × SendsBytes before sent after × NoReply fault before.bounds (codes "POST") (remaining sent)
      × (left : S) × ReadFails reads fault sent left

  module _ {D A T X : Type 0} (meaning : D → A) (error_meaning : T → X) (says : ReplyView → Answer A X) where
    -- by the result: a value (RFC 6749, 5.1), an error response (5.2) and a fault of the body are
    -- what the received reply says; the other results say whether the request was sent
    abbrev pub FromBytes : Http1Client C → Result D (RequestTokenError (Http1Error E) T)
        → Http1Client C → Type 0
    FromBytes before (Ok value) after =
        Replied before after (λ view. says view ≡ accepted (meaning value))
    FromBytes before (Err (token.ServerResponse error)) after =
        Replied before after (λ view. says view ≡ refused (error_meaning error))
    FromBytes before (Err (token.Parse fault body)) after =
        Replied before after (λ view. says view ≡ unread (fault_of fault) body.items)
    FromBytes before (Err (token.Other what)) after =
        Replied before after (λ view. says view ≡ other (string_bytes what))
        ⊎ ((after ≡ before) × SpellsNone text × (string_bytes what ≡ not_http_text))
    FromBytes before (Err (token.Request error)) after = NotReplied before error after
    FromBytes before (Err (token.Memory true)) after = Replied before after (λ view. ⊤)
    FromBytes before (Err (token.Memory false)) after = after ≡ before

-- `FromBytes` holds of the result of each request that meets its contract over this client
module _ {C S E : Type 0} (opens : C → Place → Result S E → C → Type 0) (contents remaining : S → Option (List ℕ))
    (reads writes : S → Result ℕ Io.Error → S → Type 0) (flushes : S → Result ⊤ Io.Error → S → Type 0)
    {D A T X : Type 0} (meaning : D → A) (error_meaning : T → X) where
  abbrev pub EachIsFromBytes : Type 0
  EachIsFromBytes =
      (c : Configuration) (text : List ℕ) (says : ReplyView
      → Answer A X) (before after : Http1Client C)
      (result : Result D (RequestTokenError (Http1Error E) T))
      → AsksOnce meaning error_meaning (Exchanges opens contents remaining reads writes flushes)
      says (IsRequestOf c) text before
      result after
      → FromBytes opens contents remaining reads writes flushes c text meaning error_meaning says
      before result after
