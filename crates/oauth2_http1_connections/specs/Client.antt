-- What one call of the client does: the connection that it takes, the bytes that it writes, the
-- reply that it reads, and the connections that it holds afterwards.
use Rattle.std.specs.Prelude.{◌≡◌, ℕ, Bool, true, false, ◌⊎◌, ⊤, List, ◌∷◌, take, Option, Some, None, option_map, Result, Ok, Err}
use Rattle.std.specs.declared.io.Error as Io
use Rattle.http.specs.Request.{head_of}
use Rattle.oauth2_wire.specs.Request.{HttpRequest}
use Rattle.oauth2_wire.specs.Reply.{HttpResponse}
use Rattle.oauth2_http1.specs.declared.error.Http1Error.TheVariants as Error
use Rattle.oauth2_http1.specs.declared.fault.MessageFault.{MessageFault}
use Rattle.oauth2_http1.specs.declared.fault.MessageFault.TheVariants as Fault
use Rattle.oauth2_http1.specs.declared.fault.ReplyFault.{ReplyFault}
use Rattle.oauth2_http1.specs.Calls.{ReadFails, Sends}
use Rattle.oauth2_http1.specs.Client.{NoReply}
use Rattle.oauth2_http1.specs.Kept.{ReadsAny}
use Rattle.oauth2_http1.specs.Message.{IsKeptWire}
use Rattle.oauth2_http1.specs.Origin.{Place, IsPlaceOf, NamesNoPlace}
use Rattle.oauth2_http1.specs.Unsent.{UnsentKept}
use Rattle.oauth2_http1_connections.specs.Exchange.{LookedAt, IsReady, Writes, Exchange}
use Rattle.oauth2_http1_connections.specs.Idle.{text_of, find, without}
use Rattle.oauth2_http1_connections.specs.Method.{is_idempotent}
use Rattle.oauth2_http1_connections.specs.declared.client.KeepAliveClient.{KeepAliveClient}
use Rattle.oauth2_http1_connections.specs.declared.error.KeepAliveError.{KeepAliveError}
use Rattle.oauth2_http1_connections.specs.declared.error.KeepAliveError.TheVariants.{Http1, Unanswered}
use Rattle.oauth2_http1_connections.specs.declared.idle.OwnPlace.{OwnPlace}

-- the value of `User-Agent`, if the client has one
abbrev pub agent_of : {C S : Type 0} → KeepAliveClient C S → Option (List ℕ)
agent_of client = option_map (λ value. value.bytes) client.user_agent

-- the bounds, the `User-Agent` and the most idle connections are as they were
pub record IsSetAs {C S : Type 0} (before after : KeepAliveClient C S) : Type 0 where
  pub bounds : after.bounds ≡ before.bounds
  pub user_agent : after.user_agent ≡ before.user_agent
  pub most : after.idle.most ≡ before.idle.most

-- why the request cannot be sent: its target names no place, or it cannot be written as bytes
abbrev pub CannotSend : Option (List ℕ) → MessageFault → HttpRequest → Type 0
CannotSend agent Fault.NoOrigin request = NamesNoPlace Fault.NoOrigin (head_of request).uri
CannotSend agent Fault.NoHost request = NamesNoPlace Fault.NoHost (head_of request).uri
CannotSend agent Fault.BadPort request = NamesNoPlace Fault.BadPort (head_of request).uri
CannotSend agent fault request =
    (place : Place) × IsPlaceOf (head_of request).uri place × UnsentKept agent place request fault

-- the request can be sent to this place, as these bytes
pub record CanSend (agent : Option (List ℕ)) (request : HttpRequest) (place : Place) : Type 0 where
  pub is_place : IsPlaceOf (head_of request).uri place
  pub bytes : List ℕ
  pub wire : IsKeptWire agent place request bytes

module _ {C S : Type 0} (looks : S → Bool → S → Type 0) (contents remaining : S → Option (List ℕ)) where
  -- the idle connection to the place was looked at, and is silent
  abbrev pub IsSilent : Place → KeepAliveClient C S → S → Type 0
  IsSilent place before stream =
      (idle : S) × (find place before.idle.kept.items ≡ Some idle)
      × LookedAt looks contents remaining true idle stream

  -- no connection to the place is idle, or that one was looked at and is not silent
  abbrev pub HasNoSilent : Place → KeepAliveClient C S → Type 0
  HasNoSilent place before =
      (find place before.idle.kept.items ≡ None)
      ⊎ ((idle : S) × (left : S) × (find place before.idle.kept.items ≡ Some idle)
      × LookedAt looks contents remaining false idle left)

module _ {C S E : Type 0} (opens : C → Place → Result S E → C → Type 0) (looks : S → Bool → S → Type 0) (contents remaining : S → Option (List ℕ)) where
  -- the connection for a place: the idle one to it, which was used before, or else one that the
  -- connector opens
  abbrev pub Gets : Place → KeepAliveClient C S → Bool → S → KeepAliveClient C S → Type 0
  Gets place before true taken after =
      (find place before.idle.kept.items ≡ Some taken) × (after.connect ≡ before.connect)
  Gets place before false taken after =
      HasNoSilent looks contents remaining place before
      × opens before.connect place (Ok taken) after.connect

  -- the connection that a request is written to; just before, one that was used told that it is
  -- silent
  pub record GetsReady (place : Place) (before : KeepAliveClient C S) (used : Bool) (stream : S) (after : KeepAliveClient C S) : Type 0 where
    pub taken : S
    pub gets : Gets place before used taken after
    pub ready : IsReady looks contents remaining used taken stream

  -- no connection to the place is idle and silent, and the connector opens none
  abbrev pub FailsToOpen : Place → KeepAliveClient C S → E → KeepAliveClient C S → Type 0
  FailsToOpen place before error after =
      HasNoSilent looks contents remaining place before
      × opens before.connect place (Err error) after.connect

-- the idle connections after a call: if the connection is kept, it comes first, and those used
-- least recently are dropped
abbrev pub HoldsAfter : {C S : Type 0} → Place → KeepAliveClient C S → S → Bool
    → KeepAliveClient C S → Type 0
HoldsAfter place before stream true after =
    (own : OwnPlace) × (text_of own ≡ place)
    × (after.idle.kept.items ≡ take before.idle.most (record { place = own; stream = stream } ∷ without place before.idle.kept.items))
HoldsAfter place before stream false after =
    after.idle.kept.items ≡ without place before.idle.kept.items

module _ {C S E : Type 0} (opens : C → Place → Result S E → C → Type 0) (looks : S → Bool → S → Type 0) (contents remaining : S → Option (List ℕ))
    (reads writes : S → Result ℕ Io.Error → S → Type 0) (flushes : S → Result ⊤ Io.Error → S → Type 0) where
  -- a reply was read
  pub record Answers (before : KeepAliveClient C S) (request : HttpRequest) (response : HttpResponse) (after : KeepAliveClient C S) : Type 0 where
    pub place : Place
    pub used : Bool
    pub stream : S
    pub gets : GetsReady opens looks contents remaining place before used stream after
    pub kept : Bool
    pub left : S
    pub exchange : Exchange contents remaining reads writes flushes (agent_of before) before.bounds place request stream response kept left
    pub holds : HoldsAfter place before left kept after

  -- the request was written to a connection, but no reply was read; `came` says whether any byte of
  -- one came
  pub record GetsNoReply (before : KeepAliveClient C S) (request : HttpRequest) (fault : ReplyFault) (used came : Bool) (after : KeepAliveClient C S) : Type 0 where
    pub place : Place
    pub stream : S
    pub gets : GetsReady opens looks contents remaining place before used stream after
    pub sent : S
    pub wrote : Writes contents remaining reads writes flushes (agent_of before) before.bounds place request stream sent
    pub no_reply : NoReply fault before.bounds (head_of request).method (remaining sent)
    pub left : S
    pub fails : ReadFails reads fault sent left
    pub any : ReadsAny remaining reads before.bounds came sent left
    pub holds : HoldsAfter place before left false after

  -- a write to the connection failed
  pub record FailsToWrite (before : KeepAliveClient C S) (request : HttpRequest) (error : Io.Error) (used : Bool) (after : KeepAliveClient C S) : Type 0 where
    pub place : Place
    pub can : CanSend (agent_of before) request place
    pub stream : S
    pub gets : GetsReady opens looks contents remaining place before used stream after
    pub left : S
    pub fails : Sends writes flushes (Err error) stream left
    pub holds : HoldsAfter place before left false after

  -- what was taken, written and read, by the result of the call
  abbrev pub Calls : KeepAliveClient C S → HttpRequest → Result HttpResponse (KeepAliveError E)
      → KeepAliveClient C S → Type 0
  Calls before request (Ok response) after = Answers before request response after
  -- nothing was written
  Calls before request (Err (Http1 (Error.Request fault))) after =
      (after.connect ≡ before.connect)
      × (after.idle.kept.items ≡ before.idle.kept.items)
      × CannotSend (agent_of before) fault request
  Calls before request (Err (Http1 (Error.Connect error))) after =
      (place : Place) × CanSend (agent_of before) request place
      × FailsToOpen opens looks contents remaining place before error after
      × (after.idle.kept.items ≡ without place before.idle.kept.items)
  -- a connection that was just opened failed, or any one within a reply
  Calls before request (Err (Http1 (Error.Write error))) after =
      FailsToWrite before request error false after
  Calls before request (Err (Http1 (Error.Reply fault))) after =
      (used : Bool) × (came : Bool) × (used ≡ true
      → came ≡ true) × GetsNoReply before request fault used came after
  -- a connection that was used before failed before any byte of a reply came
  Calls before request (Err (Unanswered (Error.Request fault) again)) after = ⊥
  Calls before request (Err (Unanswered (Error.Connect error) again)) after = ⊥
  Calls before request (Err (Unanswered (Error.Write error) again)) after =
      (again ≡ is_idempotent (head_of request).method)
      × FailsToWrite before request error true after
  Calls before request (Err (Unanswered (Error.Reply fault) again)) after =
      (again ≡ is_idempotent (head_of request).method)
      × GetsNoReply before request fault true false after
