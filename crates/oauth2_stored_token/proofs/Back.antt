-- The moment and the lifetime of a stored token read back.
use Rattle.std.proofs.Common.{◌≡◌, ℕ, ℤ, pos, negsuc, ◌+ℤ◌, ◌*ℤ◌, ◌+◌, ◌*◌, ◌/◌, ◌%◌, ◌^◌, nat_lt, List, true, Some, Ok, refl, arith, rules}
use Rattle.std.specs.Duration.{FitsDuration}
use Rattle.jiff_core.specs.Timestamp.{IsTimestampNanos}
use Rattle.jiff.proofs.SpanFacts.{signed_arith}
use Rattle.oauth2_times.specs.Instants.{second_of, second_data}
use Rattle.oauth2_times.proofs.Seconds.{integer, within}
use Rattle.oauth2_stored_token.specs.Stored.{moment_reading, lifetime_reading, nanoseconds_of, whole_data}

sum : (n : ℤ) → second_of n *ℤ pos 1_000_000_000 +ℤ pos (nanoseconds_of n) ≡ n
sum (pos n) = omega (arith, signed_arith)
sum (negsuc n) = omega (arith, signed_arith)

whole_within : (n : ℤ) → IsTimestampNanos n → IsTimestampNanos (second_of n *ℤ pos 1_000_000_000)
whole_within (pos n) h = omega (arith, signed_arith, h.0, h.1)
whole_within (negsuc n) h = omega (arith, signed_arith, h.0, h.1)

pub moment_back : (name other : List ℕ) (n : ℤ) → IsTimestampNanos n → moment_reading name other (Some (second_data n)) (Some (whole_data (nanoseconds_of n))) ≡ Ok n
moment_back name other n h = rw (integer (second_of n), within (second_of n *ℤ pos 1_000_000_000) (whole_within n h), sum n, within n h) refl

parts : (n : ℕ) → n / 1_000_000_000 * 1_000_000_000 + n % 1_000_000_000 ≡ n
parts n = omega arith

fits : (n : ℕ) → FitsDuration n → nat_lt n (2 ^ 64 * 1_000_000_000) ≡ true
fits n h = search (rules, arith)

pub lifetime_back : (name other : List ℕ) (n : ℕ) → FitsDuration n → lifetime_reading name other (Some (whole_data (n / 1_000_000_000))) (Some (whole_data (n % 1_000_000_000))) ≡ Ok n
lifetime_back name other n h = rw (parts n, fits n h) refl
