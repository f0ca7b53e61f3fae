-- One exchange over a connection that may be used again (RFC 9112, 9.3).
use Rattle.std.specs.Prelude.{◌≡◌, ℕ, ◌≤◌, Bool, true, false, not, ◌&&◌, ◌⊎◌, ⊤, List, length, ◌==◌, Option, Some, IfSome, Result, Ok}
use Rattle.std.specs.declared.io.Error.{Error}
use Rattle.std.specs.Io.KnownBytes.{Appends, prepend_known}
use Rattle.http.specs.Request.{head_of}
use Rattle.http.specs.Response.{body_of}
use Rattle.http1.specs.Message.{Response}
use Rattle.oauth2_wire.specs.Request.{HttpRequest}
use Rattle.oauth2_wire.specs.Reply.{HttpResponse}
use Rattle.oauth2_http1.specs.declared.bounds.Bounds.{Bounds}
use Rattle.oauth2_http1.specs.Calls.{Goes, ReadsWithin, Sends}
use Rattle.oauth2_http1.specs.Client.{reply_terms}
use Rattle.oauth2_http1.specs.Kept.{ends_itself, persists, states_close}
use Rattle.oauth2_http1.specs.Message.{IsKeptWire, kept_fields}
use Rattle.oauth2_http1.specs.Origin.{Place, IsPlaceOf}
use Rattle.oauth2_http1.specs.Reply.{Terms, ReadsReply, IsResponseOf}

-- the stream begins with this reply. `beyond` are the bytes behind it that were read with it, and
-- `left` those that remain; if the reply ends by itself, they are all that follows it. The
-- connection is kept exactly if neither side says `close`, the reply ends by itself, and no byte
-- was read beyond it
pub record Leaves (t : Terms) (closes : Bool) (stream : List ℕ) (response : HttpResponse) (kept : Bool) (left : Option (List ℕ)) : Type 0 where
  pub reply : Response
  pub rest : List ℕ
  pub reads : ReadsReply t stream reply rest
  pub is : IsResponseOf reply response
  pub beyond : List ℕ
  pub follows : ends_itself t.method reply.head ≡ true → prepend_known beyond left ≡ Some rest
  pub kept_is : kept ≡ (not closes && (ends_itself t.method reply.head && (persists reply.head && (length beyond == 0))))

-- a field of the request says that the connection ends with its reply (RFC 9112, 9.6)
abbrev pub request_closes : Option (List ℕ) → Place → HttpRequest → Bool
request_closes agent place request =
    states_close (kept_fields agent place (head_of request).headers)

module _ {S : Type 0} (looks : S → Bool → S → Type 0) (contents remaining : S → Option (List ℕ)) where
  -- a look at a connection told whether it is silent, and took and wrote nothing
  pub record LookedAt (silent : Bool) (before after : S) : Type 0 where
    pub told : looks before silent after
    pub remains : remaining after ≡ remaining before
    pub written : contents after ≡ contents before

  -- a connection before its next request: one that was used before told just then that it is silent,
  -- so that no byte that waits on it is taken for the reply (RFC 9112, 9.2); a new one is as it was
  -- opened, or was looked at too
  abbrev pub IsReady : Bool → S → S → Type 0
  IsReady true before ready = LookedAt true before ready
  IsReady false before ready = (ready ≡ before) ⊎ LookedAt true before ready

module _ {S : Type 0} (contents remaining : S → Option (List ℕ)) (reads writes : S → Result ℕ Error → S → Type 0)
    (flushes : S → Result ⊤ Error → S → Type 0) (agent : Option (List ℕ)) (bounds : Bounds) (place : Place) (request : HttpRequest) where
  -- `sent` is the connection after the whole request was written to it once
  pub record Writes (before sent : S) : Type 0 where
    pub is_place : IsPlaceOf (head_of request).uri place
    pub bytes : List ℕ
    pub wire : IsKeptWire agent place request bytes
    pub written : Appends (contents before) (contents sent) bytes
    pub sends : Sends writes flushes (Ok tt) before sent

  -- the request was written, and then its reply was read
  pub record Exchange (before : S) (response : HttpResponse) (kept : Bool) (after : S) : Type 0 where
    pub sent : S
    pub wrote : Writes before sent
    pub within : ReadsWithin remaining reads bounds sent after
    pub went : Goes reads sent after
    pub bound : length (body_of response).items ≤ bounds.max_body
    pub came : IfSome (remaining sent)
        (λ stream. Leaves (reply_terms bounds (head_of request).method) (request_closes agent place request) stream response kept (remaining after))
