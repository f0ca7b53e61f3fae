-- Waits that a limit cuts.
use Rattle.std.proofs.Common.{◌≡◌, ℕ, ◌*◌, ◌≤◌, Option, Some, None, refl, arith}
use Rattle.std.specs.Prelude.{min, unwrap_or, option_map, Result, Ok, Err}
use Rattle.std.specs.Duration.{max_nanos}
use Rattle.oauth2_retry_after.specs.RetryAfter.{retry_after, nanoseconds_of}
use Rattle.oauth2_wire.specs.Reply.{HttpResponse}
use Rattle.oauth2_http1_connections.specs.retries.Pause.{pause, pause_after}

pause-within : (most wait due : ℕ) (asked : Option ℕ) → min most wait ≡ min most due → pause most wait asked ≡ pause most due asked
pause-within most wait due None same = same
pause-within most wait due (Some seconds) same = refl

-- a wait counts only as far as the limit
pub pause_after-within : {E : Type 0} (most wait due : ℕ) (answer : Result HttpResponse E) → min most wait ≡ min most due → pause_after most wait answer ≡ pause_after most due answer
pause_after-within most wait due (Ok reply) same = pause-within most wait due (retry_after reply) same
pause_after-within most wait due (Err error) same = same

-- waits that are the same up to the limit are so when they are doubled
pub doubled : (most wait due longer : ℕ) → min most wait ≡ min most due → most ≤ max_nanos → longer ≡ min most (min (wait * 2) max_nanos) → min most longer ≡ min most (2 * due)
doubled most wait due longer same fits is = omega arith

-- the wait that is asked for, cut first to the longest duration
pub cut_twice : (most wait : ℕ) (seconds : Option ℕ) → most ≤ max_nanos → min most (unwrap_or (option_map nanoseconds_of seconds) wait) ≡ pause most wait seconds
cut_twice most wait None fits = refl
cut_twice most wait (Some seconds) fits = omega (arith, fits)
