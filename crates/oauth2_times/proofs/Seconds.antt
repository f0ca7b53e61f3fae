-- Instants of whole seconds are written as they are, and read back.
use Rattle.std.proofs.Common.{◌≡◌, ◌≢◌, ℕ, ℤ, pos, negsuc, neg_ℤ, ◌*ℤ◌, int_lt, List, Bool, true, false, Option, Some, None, option_map, IfSome, Ok, refl, sym, ap, ◌∙◌, arith}
use Rattle.serde_json.specs.Find.{of_integer}
use Rattle.jiff.specs.Words.{IsTimestampNanos}
use Rattle.jiff.proofs.SpanFacts.{signed_arith}
use Rattle.jiff_core.specs.declared.timestamp.Timestamp.{Timestamp}
use Rattle.oauth2_json.specs.Members.{optional_member}
use Rattle.oauth2_times.specs.Instants.{instant, instant_at, instant_of, is_instant, second_of, second_data, IsWholeSeconds}

pub whole_seconds_stay : (z : ℤ) → second_of (z *ℤ pos 1_000_000_000) ≡ z
whole_seconds_stay (pos n) = omega (arith, signed_arith)
whole_seconds_stay (negsuc n) = omega (arith, signed_arith)

-- the seconds of whole seconds make them up
pub second_of-whole : (n : ℤ) → IsWholeSeconds n → second_of n *ℤ pos 1_000_000_000 ≡ n
second_of-whole n w = ap (λ m. second_of m *ℤ pos 1_000_000_000) w.1 ∙ ap (λ z. z *ℤ pos 1_000_000_000) (whole_seconds_stay w.0) ∙ sym w.1

pub integer : (z : ℤ) → instant_of (of_integer z) ≡ instant_at z
integer (pos n) = refl
integer (negsuc n) = refl

no : (b : Bool) → b ≢ true → b ≡ false
no true f = absurd (f refl)
no false f = refl

-- what `jiff` has is in its range
pub within : (n : ℤ) → IsTimestampNanos n → is_instant n ≡ true
within n h =
    let low : int_lt n (neg_ℤ (pos 377_705_023_201_000_000_000)) ≡ false = no _ (λ e. omega (arith, signed_arith, h.0, e)) in
    let high : int_lt (pos 253_402_207_200_999_999_999) n ≡ false = no _ (λ e. omega (arith, signed_arith, h.1, e)) in
    rw (low, high) refl

pub optional-time : (name : List ℕ) (o : Option Timestamp) → IfSome (option_map (λ t. t.nanosecond) o) IsWholeSeconds
    → optional_member instant name (option_map second_data (option_map (λ t. t.nanosecond) o)) ≡ Ok (option_map (λ t. t.nanosecond) o)
optional-time name None w = refl
optional-time name (Some t) w = rw (integer (second_of t.nanosecond), second_of-whole t.nanosecond w, within t.nanosecond t.in_range) refl

pub optional-instant : (name : List ℕ) (o : Option ℤ) → IfSome o (λ n. is_instant n ≡ true) → IfSome o IsWholeSeconds → optional_member instant name (option_map second_data o) ≡ Ok o
optional-instant name None r w = refl
optional-instant name (Some n) r w = rw (integer (second_of n), second_of-whole n w, r) refl
