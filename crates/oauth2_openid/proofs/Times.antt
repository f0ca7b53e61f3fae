-- A double that counts seconds, and the moment that it names.
use Rattle.std.proofs.Common.{◌≡◌, ℕ, ◌*◌, ◌≤◌, ℤ, pos, neg_ℤ, int_lt, ◌^◌, Bool, true, false, not, ◌&&◌, ◌||◌, T, Option, None, refl, sym, ap, ◌∙◌, arith}
use borrow.Author.Tests.{ltb-false}
use lib.Dec.{ltb, eqb}
use lib.Ieee.{lt, le, eq, is_nan, up, down}
use lib.Ieee.Nearest.{closest_mono}
use lib.Ieee.Fits.{down_pos}
use Rattle.std.specs.Result.{result_ok}
use Rattle.std.specs.Duration.{FitsDurationSecs, nanos_of_secs}
use Rattle.std.specs.Float.{Float, nan, inf, fin, NotNan, float_with_sign, is_sign_negative, float_zero, two_to, ◌≤ᶠ◌}
use Rattle.jiff.proofs.SpanFacts.{signed_arith}
use Rattle.oauth2_times.specs.Instants.{is_instant}
use Rattle.oauth2_openid.specs.Times.{moment, signed, float_time}

-- a size that fits a duration is a number's
pub not_nan : (x : Float) → FitsDurationSecs (float_with_sign false x) → NotNan x
unfolding float_with_sign lt is_nan
not_nan nan h = absurd h.1
not_nan (inf s) h = tt
not_nan (fin s m e) h = tt

pub fitting : (x : Float) → FitsDurationSecs (float_with_sign false x) → float_time x ≡ moment (signed (is_sign_negative x) (nanos_of_secs (float_with_sign false x)))
unfolding float_with_sign lt is_sign_negative
fitting nan h = absurd h.1
fitting (inf s) h = absurd h.1
fitting (fin s m e) h = refl

-- the moment of a size before 1970
pub before_1970 : (x : Float) (size n : ℤ) (o : Option ℤ) → FitsDurationSecs (float_with_sign false x) → size ≡ pos (nanos_of_secs (float_with_sign false x)) → true ≡ is_sign_negative x → n ≡ neg_ℤ size
    → o ≡ result_ok (moment n) → o ≡ result_ok (float_time x)
before_1970 x size n o fits is_size s same is =
    let negative : moment n ≡ float_time x = rw (same, is_size) (sym (fitting x fits ∙ rw (sym s) refl)) in
    is ∙ ap result_ok negative

-- and of one after it
pub after_1970 : (x : Float) (size : ℤ) (o : Option ℤ) → FitsDurationSecs (float_with_sign false x) → size ≡ pos (nanos_of_secs (float_with_sign false x)) → false ≡ is_sign_negative x
    → o ≡ result_ok (moment size) → o ≡ result_ok (float_time x)
after_1970 x size o fits is_size s is =
    let positive : moment size ≡ float_time x = rw is_size (sym (fitting x fits ∙ rw (sym s) refl)) in
    is ∙ ap result_ok positive

not_true : (b : Bool) → (T b → ⊥) → b ≡ false
not_true true f = absurd (f tt)
not_true false f = refl

yes : (b : Bool) → (b ≡ false → ⊥) → b ≡ true
yes true f = refl
yes false f = absurd (f refl)

later : (n : ℕ) → 18_446_744_073_709_551_616_000_000_000 ≤ n → int_lt (pos 253_402_207_200_999_999_999) (pos n) ≡ true
later n h = yes (int_lt (pos 253_402_207_200_999_999_999) (pos n)) (λ e. omega (arith, signed_arith, h, e))

earlier : (n : ℕ) → 18_446_744_073_709_551_616_000_000_000 ≤ n → int_lt (neg_ℤ (pos n)) (neg_ℤ (pos 377_705_023_201_000_000_000)) ≡ true
earlier n h = yes (int_lt (neg_ℤ (pos n)) (neg_ℤ (pos 377_705_023_201_000_000_000))) (λ e. omega (arith, signed_arith, h, e))

last : (a : Bool) → not a && not true ≡ false
last true = refl
last false = refl

-- 2 ^ 64 seconds are later than any moment, and as many before 1970 earlier
too_far : (s : Bool) (n : ℕ) → 18_446_744_073_709_551_616_000_000_000 ≤ n → is_instant (signed s n) ≡ false
too_far true n h = rw (earlier n h) refl
too_far false n h = rw (later n h) (last (int_lt (pos n) (neg_ℤ (pos 377_705_023_201_000_000_000))))

seconds : (m : ℕ) (e : ℤ) → lt (fin false m e) (two_to 64) ≡ false → 18_446_744_073_709_551_616_000_000_000 ≤ nanos_of_secs (fin false m e)
unfolding lt
seconds m e h =
    let far : 1 * 2 ^ 64 * down e ≤ m * up e * 1 = ltb-false (m * up e * 1) (1 * 2 ^ 64 * down e) h in
    closest_mono 18_446_744_073_709_551_616_000_000_000 1 (m * up e * 1_000_000_000) (down e) (omega arith) (down_pos e) (omega (arith, far))

-- a size is not below 0
zero_at : (a b : ℕ) (t : Bool) → ltb a b ≡ t → a ≡ 0 → T (t || (eqb a b && (true || eqb a 0)))
zero_at a b true e z = tt
zero_at a b false e z = let none : b ≡ 0 = omega (arith, ltb-false a b e, z) in rw (z, none) tt

not_below : (m : ℕ) (e : ℤ) → float_zero ≤ᶠ fin false m e
unfolding le lt eq
not_below m e = zero_at (0 * up (pos 0) * down e) (m * up e * down (pos 0)) (ltb (0 * up (pos 0) * down e) (m * up e * down (pos 0))) refl (omega arith)

-- and no moment is named by one that does not
pub unfitting : (x : Float) → ¬ FitsDurationSecs (float_with_sign false x) → None ≡ result_ok (float_time x)
unfolding float_with_sign
unfitting nan h = refl
unfitting (inf s) h = refl
unfitting (fin s m e) h = rw (too_far s (nanos_of_secs (fin s m e)) (seconds m e (not_true (lt (fin false m e) (two_to 64)) (λ less. h (not_below m e, less))))) refl
