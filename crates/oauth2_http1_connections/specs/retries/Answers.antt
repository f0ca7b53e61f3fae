-- After which answers a request is sent again.
use Rattle.std.specs.Prelude.{ℕ, List, Bool, ◌&&◌, ◌||◌, bytes_eq, codes, Result, Ok, Err}
use Rattle.http.specs.Response.{head_of}
use Rattle.oauth2_retry_after.specs.RetryAfter.{is_busy}
use Rattle.oauth2_wire.specs.Reply.{HttpResponse}

-- the method is GET, which is safe and idempotent: sending it twice does no harm (RFC 9110, 9.2.1
-- and 9.2.2)
abbrev pub is_get : List ℕ → Bool
is_get method = bytes_eq method (codes "GET")

-- a GET is sent again after a reply that asks to wait, and after any error; any other request only
-- after an error that says that nothing was sent
abbrev pub is_repeatable : {E : Type 0} → (E → Bool) → List ℕ → Result HttpResponse E → Bool
is_repeatable unsent method (Ok reply) = is_get method && is_busy (head_of reply).status
is_repeatable unsent method (Err error) = is_get method || unsent error
