-- The digits of a Retry-After.
use Rattle.std.proofs.Common.{rules, ◌≡◌, ℕ, zero, suc, ◌*◌, ◌<◌, ◌≤◌, ◌^◌, List, [], ◌∷◌, Bool, true, false, Some, None, refl, arith, length}
use Rattle.std.specs.Prelude.{◌==◌, ◌&&◌, not, IsTrue, Ok, Err, if◌then◌else◌}
use Rattle.std.specs.Char.{is_ascii_digit}
use Rattle.std.specs.Duration.{max_nanos}
use Rattle.std.specs.List.{list_all}
use Rattle.std.specs.Str.Parse.{digits_value, ParsesUnsigned}
use Rattle.std.proofs.Math.Decide.{dec_le}
use Rattle.std.proofs.lemmas.Bool.Decides.{nat_tests}
use Rattle.std.proofs.lemmas.List.Elements.{All-nil, All-cons}
use Rattle.std.proofs.lemmas.Str.Parse.{IsNumeralModel, numerals_by_value, parse_digits}
use Rattle.http_header.specs.Token.{is_visible_or_blank}
use Rattle.http_header.specs.FieldValue.{IsVisibleAscii}
use Rattle.oauth2_retry_after.specs.RetryAfter.{is_delay, delay_seconds, nanoseconds_of}

-- a number of seconds that is read is no longer than the longest `Duration`
pub short_delay : (seconds : ℕ) → seconds < 2 ^ 64 → seconds * 1_000_000_000 ≡ nanoseconds_of seconds
short_delay seconds few = omega (arith, few)

-- so many seconds are more than the longest `Duration`
pub past_each : (seconds : ℕ) → 2 ^ 64 ≤ seconds → max_nanos ≡ nanoseconds_of seconds
past_each seconds many = omega (arith, many)

both : (a b : Bool) → IsTrue (a && b) → IsTrue a × IsTrue b
both true b h = (refl, h)
both false b h = absurd (cc)

some_length : (n : ℕ) → IsTrue (not (n == 0)) → 0 < n
some_length zero h = absurd (cc)
some_length (suc n) h = omega arith

own : IsNumeralModel (λ ds. list_all is_ascii_digit ds ≡ true) (digits_value 10)
own = numerals_by_value (λ ds. list_all is_ascii_digit ds ≡ true) (search rules)

-- the number that was read is that of the digits
pub read_delay : (text : List ℕ) (n : ℕ) → ParsesUnsigned {E = Unit {0}} 64 10 text (Ok n) → IsTrue (is_delay text) → n ≡ digits_value 10 text
read_delay text n read is =
    let digits = both (not (length text == 0)) (list_all is_ascii_digit text) is in
    (parse_digits own {E = Unit {0}} 64 text (Ok n) read digits.1).1

-- digits that are not read are too many for a number of 64 bits
pub long_delay : (text : List ℕ) → ParsesUnsigned {E = Unit {0}} 64 10 text (Err tt) → IsTrue (is_delay text) → 2 ^ 64 ≤ digits_value 10 text
long_delay text read is =
    let digits = both (not (length text == 0)) (list_all is_ascii_digit text) is in
    elim (dec_le (2 ^ 64) (digits_value 10 text)) [
      | yes many ↦ many
      | no few ↦ absurd (parse_digits own {E = Unit {0}} 64 text (Err tt) read digits.1 (some_length (length text) digits.0, omega (arith, few)))
    ]

seen_digit : (b : ℕ) → IsTrue (is_ascii_digit b) → IsTrue (is_visible_or_blank b)
seen_digit b is = grind (arith, nat_tests)

seen_digits : (text : List ℕ) → IsTrue (list_all is_ascii_digit text) → IsVisibleAscii text
seen_digits [] is = All-nil (λ b. IsTrue (is_visible_or_blank b))
seen_digits (b ∷ text) is =
    let parts = both (is_ascii_digit b) (list_all is_ascii_digit text) is in
    All-cons (λ b. IsTrue (is_visible_or_blank b)) b text (seen_digit b parts.0) (seen_digits text parts.1)

none_without : (b : Bool) (n : ℕ) → (b ≡ true → ⊥) → (if b then Some n else None) ≡ None
none_without true n never = absurd (never refl)
none_without false n never = refl

-- a value that is no text is no number
pub no_delay : (value : List ℕ) → (IsVisibleAscii value → ⊥) → delay_seconds value ≡ None
no_delay value never =
    none_without (is_delay value) (digits_value 10 value)
    (λ is. never (seen_digits value (both (not (length value == 0)) (list_all is_ascii_digit value) is).1))
