-- How long the client waits before it sends a request again. Times are in nanoseconds unless a
-- comment says seconds.
use Rattle.std.specs.Prelude.{ℕ, ◌*◌, min, Option, Some, None, Result, Ok, Err}
use Rattle.oauth2_retry_after.specs.RetryAfter.{retry_after}
use Rattle.oauth2_wire.specs.Reply.{HttpResponse}

-- the wait that the server asks for (in seconds), or `wait` if it asks for none; never more than
-- `most`
abbrev pub pause : ℕ → ℕ → Option ℕ → ℕ
pause most wait None = min most wait
pause most wait (Some seconds) = min most (seconds * 1000000000)

-- the wait after an answer: that of its Retry-After, or `wait` after an error; never more than
-- `most`
abbrev pub pause_after : {E : Type 0} → ℕ → ℕ → Result HttpResponse E → ℕ
pause_after most wait (Ok reply) = pause most wait (retry_after reply)
pause_after most wait (Err error) = min most wait
