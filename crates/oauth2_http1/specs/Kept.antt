-- What a reply leaves of its connection (RFC 9112, 6.3, 9.3 and 9.6).
use Rattle.std.specs.Prelude.{◌≡◌, ℕ, ◌≤◌, Bool, true, false, not, ◌&&◌, List, map, length, ◌==◌, nat_lt, codes, Option, Some, Result, Ok, Err}
use Rattle.std.specs.declared.io.Error.{Error}
use Rattle.std.specs.Io.KnownBytes.{prepend_known}
use Rattle.httparse.specs.Grammar.{ResponseHead, status_code}
use Rattle.httparse.specs.Spans.{name_and_value}
use Rattle.http1.specs.declared.framing.Framing.{Framing}
use Rattle.http1.specs.declared.framing.FramingError.{FramingError}
use Rattle.http1.specs.declared.framing.MethodKind.{MethodKind}
use Rattle.http1.specs.Conn.{is_until_close}
use Rattle.http1.specs.Fields.{Header, elements_named, has_option}
use Rattle.http1.specs.Framing.{response_framing}
use Rattle.http1.specs.Message.{Response, known_of}
use Rattle.oauth2_http1.specs.Bounds.{most_bytes}
use Rattle.oauth2_http1.specs.Calls.{bytes_returned, successes, ReadsOf}
use Rattle.oauth2_http1.specs.Reply.{Terms, ReadsReply, IsResponseOf}
use Rattle.oauth2_http1.specs.declared.bounds.Bounds.{Bounds}
use Rattle.oauth2_http1.specs.declared.kept.ReplyRead.{ReplyRead}

-- the option `close` is in a field `Connection`, in upper or lower case (RFC 9112, 9.6)
abbrev pub states_close : List Header → Bool
states_close fields = has_option (codes "close") (elements_named (codes "connection") fields)

-- by the head of the reply, the connection persists: HTTP/1.1 without `close`; of HTTP/1.0 none,
-- since the client asks for no `keep-alive` (RFC 9112, 9.3)
abbrev pub persists : ResponseHead → Bool
persists h = nat_lt 0 h.minor && not (states_close (map name_and_value h.fields))

-- a body with this framing ends before the connection is closed
abbrev pub is_delimited : Result Framing FramingError → Bool
is_delimited (Ok framing) = not (is_until_close framing)
is_delimited (Err e) = false

-- the reply to a request with this method ends by itself: it has no body, a stated length or
-- chunks, and does not run until the connection is closed (RFC 9112, 6.3)
abbrev pub ends_itself : MethodKind → ResponseHead → Bool
ends_itself method h =
    is_delimited (response_framing method (status_code h) h.minor (known_of h.fields))

-- the connection may be used again: the reply ended by itself, the connection persists, and no byte
-- came beyond the reply
abbrev pub keeps_connection : ReplyRead → Bool
keeps_connection read = read.ended && (read.persists && (length read.beyond.items == 0))

-- the stream begins with this reply, and `left` are the bytes that are left in the reader
pub record TakesReply (t : Terms) (stream : List ℕ) (read : ReplyRead) (left : Option (List ℕ)) : Type 0 where
  pub reply : Response
  pub rest : List ℕ
  pub reads : ReadsReply t stream reply rest
  pub is : IsResponseOf reply read.response
  pub ended_is : read.ended ≡ ends_itself t.method reply.head
  pub persists_is : read.persists ≡ persists reply.head
  -- if the reply ended by itself, no byte behind it is lost
  pub rest_is : read.ended ≡ true → prepend_known read.beyond.items left ≡ Some rest

-- the reads took at most as many bytes as the bounds allow, in at most as many reads; `came` says
-- whether they took any
abbrev pub ReadsAny : {R : Type 0} → (R → Option (List ℕ)) → (R → Result ℕ Error → R → Type 0)
    → Bounds → Bool → R → R → Type 0
ReadsAny remaining reads bounds came old new =
    (all : ReadsOf remaining reads old new) × (bytes_returned all.returned ≤ most_bytes bounds) × (successes all.returned ≤ bounds.max_reads)
    × (came ≡ nat_lt 0 (bytes_returned all.returned))
