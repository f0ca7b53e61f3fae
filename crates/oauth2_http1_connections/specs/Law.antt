-- What went over one connection that carried several exchanges.
use Rattle.std.specs.Prelude.{◌≡◌, ℕ, ⊤, Bool, true, false, List, [], ◌∷◌, ◌++◌, Option, Some, IfSome, IsSome, Result, Ok}
use Rattle.std.specs.declared.io.Error.{Error}
use Rattle.std.specs.Io.KnownBytes.{Appends, Keeps}
use Rattle.std.specs.List.{AllByRecursion}
use Rattle.http.specs.Request.{head_of, body_of}
use Rattle.http1.specs.declared.conn.Limits.{Limits}
use Rattle.http1.specs.Message.{Response}
use Rattle.http1.specs.ServerTrace.{SeenRequest}
use Rattle.oauth2_wire.specs.Request.{HttpRequest}
use Rattle.oauth2_wire.specs.Reply.{HttpResponse}
use Rattle.oauth2_http1.specs.declared.bounds.Bounds.{Bounds}
use Rattle.oauth2_http1.specs.Client.{reply_terms}
use Rattle.oauth2_http1.specs.Message.{Takes, ReadsOnly, head_text, kept_fields, seen_request}
use Rattle.oauth2_http1.specs.Origin.{Place, origin_form}
use Rattle.oauth2_http1.specs.Reply.{ReadsReply, IsResponseOf}
use Rattle.oauth2_http1_connections.specs.Client.{agent_of}
use Rattle.oauth2_http1_connections.specs.Exchange.{IsReady, Exchange}
use Rattle.oauth2_http1_connections.specs.Idle.{text_of, find}
use Rattle.oauth2_http1_connections.specs.declared.client.KeepAliveClient.{KeepAliveClient}
use Rattle.oauth2_http1_connections.specs.declared.error.KeepAliveError.{KeepAliveError}
use Rattle.oauth2_http1_connections.specs.declared.idle.Idle.{Idle}

-- a request with its reply, and the settings of the client at that call
pub record Asked : Type 0 where
  pub agent : Option (List ℕ)
  pub bounds : Bounds
  pub request : HttpRequest
  pub response : HttpResponse

-- the request and the reply of a call of this client
abbrev pub asked_of : {C S : Type 0} → KeepAliveClient C S → HttpRequest → HttpResponse → Asked
asked_of client request response = record {
  agent = agent_of client;
  bounds = client.bounds;
  request = request;
  response = response;
}

-- `P` holds of the first bytes of the stream, which end where `rest` begins, and of these bytes
-- whatever follows them
abbrev pub IsDelimited : (List ℕ → List ℕ → Type 0) → List ℕ → List ℕ → Type 0
IsDelimited P stream rest =
    (used : List ℕ) × (stream ≡ used ++ rest) × ((more : List ℕ) → P (used ++ more) more)

module _ {S : Type 0} (looks : S → Bool → S → Type 0) (contents remaining : S → Option (List ℕ)) (reads writes : S → Result ℕ Error → S → Type 0)
    (flushes : S → Result ⊤ Error → S → Type 0) (place : Place) where
  -- the connection carried these exchanges one after the other, and was kept after each; before each
  -- but the first, and before that one too if the connection was used before, it told that it is
  -- silent
  abbrev pub Carries : Bool → List Asked → S → S → Type 0
  Carries used [] before after = after ≡ before
  Carries used (asked ∷ later) before after =
      (ready : S) × IsReady looks contents remaining used before ready × (mid : S)
      × Exchange contents remaining reads writes flushes asked.agent asked.bounds place
      asked.request ready asked.response true mid
      × Carries true later mid after

  -- the bytes that were written, in the order of the exchanges
  abbrev pub sent_bytes : (used : Bool) (all : List Asked) (before after : S)
      → Carries used all before after → List ℕ
  sent_bytes used [] before after carried = []
  sent_bytes used (asked ∷ later) before after (ready, silent, mid, exchange, carried) =
      exchange.wrote.bytes ++ sent_bytes true later mid after carried

  -- the bytes that were read, in the order of the exchanges
  abbrev pub read_bytes : (used : Bool) (all : List Asked) (before after : S)
      → Carries used all before after → List ℕ
  read_bytes used [] before after carried = []
  read_bytes used (asked ∷ later) before after (ready, silent, mid, exchange, carried) =
      exchange.within.0.bytes ++ read_bytes true later mid after carried

  -- at each exchange it is known which bytes the connection gives
  abbrev pub AreKnown : (used : Bool) (all : List Asked) (before after : S)
      → Carries used all before after → Type 0
  AreKnown used [] before after carried = ⊤
  AreKnown used (asked ∷ later) before after (ready, silent, mid, exchange, carried) =
      IsSome (remaining exchange.sent) × AreKnown true later mid after carried

  -- a read leaves what was written
  abbrev pub ReadsLeave : Type 0
  ReadsLeave =
      (before after : S) (result : Result ℕ Error) → reads before result after → Keeps (contents before) (contents after)

-- the stream begins with the replies to these requests in their order, and `rest` follows them
abbrev pub BeginsWithReplies : List Asked → List ℕ → List ℕ → Type 0
BeginsWithReplies [] stream rest = stream ≡ rest
BeginsWithReplies (asked ∷ later) stream rest =
    (reply : Response) × (after : List ℕ)
    × ReadsReply (reply_terms asked.bounds (head_of asked.request).method) stream reply after
    × IsResponseOf reply asked.response
    × BeginsWithReplies later after rest

-- what a server sees of a request to the place
abbrev pub seen_of : Place → Asked → SeenRequest
seen_of place asked =
    seen_request (head_of asked.request).method (origin_form (head_of asked.request).uri)
    (kept_fields asked.agent place (head_of asked.request).headers) (body_of asked.request).items

-- a server with these limits takes the heads of the requests
abbrev pub TakesAll : Limits → Place → List Asked → Type 0
TakesAll limits place all =
    AllByRecursion (λ (asked : Asked). Takes limits (head_text (head_of asked.request).method (origin_form (head_of asked.request).uri)
    (kept_fields asked.agent place (head_of asked.request).headers) (body_of asked.request).items)) all

-- the stream begins with these requests in their order, `rest` follows them, and it can be read in
-- no other way
abbrev pub BeginsWithRequests : Limits → Place → List Asked → List ℕ → List ℕ → Type 0
BeginsWithRequests limits place [] stream rest = stream ≡ rest
BeginsWithRequests limits place (asked ∷ later) stream rest =
    (after : List ℕ) × ReadsOnly limits stream (seen_of place asked) after × BeginsWithRequests limits place later after rest

module _ {C S E : Type 0} (opens : C → Place → Result S E → C → Type 0) (looks : S → Bool → S → Type 0) (contents remaining : S → Option (List ℕ))
    (reads writes : S → Result ℕ Error → S → Type 0) (flushes : S → Result ⊤ Error → S → Type 0) where
  -- the connector opened the connection to the place, and since then it carried these exchanges
  pub record HasHistory (place : Place) (now : S) : Type 0 where
    pub before : C
    pub after : C
    pub opened : S
    pub opens_it : opens before place (Ok opened) after
    pub exchanges : List Asked
    pub carried : Carries looks contents remaining reads writes flushes place false exchanges opened now

  -- each idle connection was opened by the connector to its place, and only exchanges of the client
  -- were carried on it
  abbrev pub EachHasHistory : KeepAliveClient C S → Type 0
  EachHasHistory client =
      AllByRecursion (λ (idle : Idle S). HasHistory (text_of idle.place) idle.stream)
      client.idle.kept.items

  -- a call leaves it so, and a connection that it uses again is one of them
  pub record KeepsHistories (before : KeepAliveClient C S) (request : HttpRequest) (result : Result HttpResponse (KeepAliveError E)) (after : KeepAliveClient C S) : Type 0 where
    pub kept : EachHasHistory after
    pub used : (place : Place) (stream : S) → find place before.idle.kept.items ≡ Some stream
        → HasHistory place stream

  -- the bytes that were written to the connection since it was opened
  abbrev pub written_since : (place : Place) (now : S) → HasHistory place now → List ℕ
  written_since place now history =
      sent_bytes looks contents remaining reads writes flushes place false history.exchanges history.opened now
      history.carried

  -- the bytes that were read from the connection since it was opened
  abbrev pub read_since : (place : Place) (now : S) → HasHistory place now → List ℕ
  read_since place now history =
      read_bytes looks contents remaining reads writes flushes place false history.exchanges history.opened now
      history.carried

  -- at each exchange since then it is known which bytes the connection gives
  abbrev pub IsKnownSince : (place : Place) (now : S) → HasHistory place now → Type 0
  IsKnownSince place now history =
      AreKnown looks contents remaining reads writes flushes place false history.exchanges history.opened now
      history.carried

  -- behind what was written to the connection since it was opened come these bytes, the next
  -- request; and behind the replies to the earlier requests comes what remains at `sent`
  pub record Follows (place : Place) (now : S) (history : HasHistory place now) (bytes : List ℕ) (sent : S) : Type 0 where
    pub written : ReadsLeave looks contents remaining reads writes flushes place
        → Appends (contents history.opened) (contents sent)
        (written_since place now history ++ bytes)
    pub requests : (limits : Limits) (more : List ℕ) → TakesAll limits place history.exchanges
        → BeginsWithRequests limits place history.exchanges
        ((written_since place now history ++ bytes) ++ more) (bytes ++ more)
    pub replies : IsKnownSince place now history
        → IfSome (remaining sent)
        (λ stream. BeginsWithReplies history.exchanges (read_since place now history ++ stream) stream)

  -- with one more exchange, its request and its reply are the next messages: the bytes that were
  -- written are those of all requests, and the bytes that were given begin with all replies
  pub record IsNext (place : Place) (now : S) (history : HasHistory place now) (asked : Asked) (bytes : List ℕ) (sent : S) : Type 0 where
    pub follows : Follows place now history bytes sent
    pub requests : (limits : Limits) (more : List ℕ)
        → TakesAll limits place (history.exchanges ++ asked ∷ [])
        → BeginsWithRequests limits place (history.exchanges ++ asked ∷ [])
        ((written_since place now history ++ bytes) ++ more) more
    pub replies : IsKnownSince place now history
        → IfSome (remaining sent) (λ stream. (rest : List ℕ) × BeginsWithReplies (history.exchanges ++ asked ∷ []) (read_since place now history ++ stream) rest)
