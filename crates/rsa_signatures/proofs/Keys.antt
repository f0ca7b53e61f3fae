-- The sizes of a modulus, and the faults of a key.
use Rattle.std.proofs.Common.{◌≡◌, ℕ, zero, suc, ◌+◌, ◌-◌, ◌*◌, ◌%◌, ◌^◌, ◌<◌, ◌≤◌, List, [], ◌∷◌, length, drop, take, take-append-drop, length-drop, mul-le-mul_left, get_or, slice_index, refl, sym, ap, ◌∙◌, arith, inl, inr, true, false, nat_eq, nat_lt, nat_le, lit<, mul-le-mul_right, pow-suc, add-one, drop-cons, lt_of_lt_of_le, Ok, Err, ltb-false, leb-false}
use Rattle.std.proofs.Math.Nat.{pow-le-pow_right}
use Rattle.std.proofs.lemmas.Bool.{cases_lt, ne_eqb}
use Rattle.modular_arithmetic.specs.Octets.{number_onto, number, AreOctets}
use Rattle.modular_arithmetic.specs.Limbs.{value_below}
use Rattle.rsa_signatures.specs.Octets.{HasOctets}
use Rattle.rsa_signatures.specs.PublicKey.{least_modulus, modulus_limit, key_of}
use Rattle.rsa_signatures.specs.declared.key_error.RsaKeyError.TheVariants.{ModulusEven, ExponentTooLarge, ExponentTooSmall, ExponentEven}
use Rattle.modular_arithmetic.proofs.OctetNumbers.{number_onto-append, number-lt}
use Rattle.rsa_signatures.proofs.OctetNumbers.{number_onto-least, number-zero, number-least, number-below}
use Rattle.modular_arithmetic.proofs.LimbValues.{value_below-above}

abbrev pub HasFirst : List ℕ → Type 0
HasFirst bs = 0 < length bs → 0 < slice_index bs 0

pub number-drop : (bs : List ℕ) (i : ℕ) → i < length bs → get_or bs i 0 ≡ 0 → number (drop (i + 1) bs) ≡ number (drop i bs)
number-drop bs i h z =
    let e : drop i bs ≡ get_or bs i 0 ∷ drop (suc i) bs = drop-cons bs i 0 h in
    ap (λ t. number (drop t bs)) (add-one i) ∙ sym (number-zero (drop (suc i) bs)) ∙ ap (λ t. number (t ∷ drop (suc i) bs)) (sym z) ∙ ap number (sym e)

power_mono : (i j : ℕ) → i ≤ j → 256 ^ i ≤ 256 ^ j
power_mono i j h = let pos : 0 < 256 = omega arith in pow-le-pow_right pos h

pub fewer_bytes : (bs : List ℕ) (j m : ℕ) → m ≡ 256 ^ j → AreOctets bs → length bs ≤ j → number bs < m
fewer_bytes bs j m e h l = lt_of_lt_of_le (number-lt bs h) (let q : 256 ^ length bs ≤ m = omega (arith, power_mono (length bs) j l) in q)

pub more_bytes : (bs : List ℕ) (j m : ℕ) → m ≡ 256 ^ j → HasFirst bs → j < length bs → m ≤ number bs
more_bytes [] j m e f l = absurd (omega arith)
more_bytes (x ∷ xs) j m e f l =
    let one : 1 ≤ x = f (omega arith) in
    let up : 1 * 256 ^ length xs ≤ x * 256 ^ length xs = mul-le-mul_right (256 ^ length xs) one in
    omega (arith, number-least x xs, power_mono j (length xs) (omega arith))

pub short_below : (bs : List ℕ) (j m : ℕ) → m ≡ 128 * 256 ^ j → AreOctets bs → length bs < j + 1 → number bs < m
short_below bs j m e h l = omega (arith, fewer_bytes bs j (256 ^ j) refl h (omega arith))

pub short_first : (bs : List ℕ) (j m : ℕ) → m ≡ 128 * 256 ^ j → AreOctets bs → length bs ≡ j + 1 → slice_index bs 0 < 128 → number bs < m
short_first [] j m e h l f = absurd (omega arith)
short_first (x ∷ xs) j m e h l f =
    let same : length xs ≡ j = omega arith in
    let up : (x + 1) * 256 ^ length xs ≤ 128 * 256 ^ length xs = mul-le-mul_right (256 ^ length xs) (omega arith) in
    omega (arith, number-below x xs (λ i. h (suc i)), ap (λ t. 256 ^ t) same)

pub long_first : (bs : List ℕ) (j m : ℕ) → m ≡ 128 * 256 ^ j → length bs ≡ j + 1 → 128 ≤ slice_index bs 0 → m ≤ number bs
long_first [] j m e l f = absurd (omega arith)
long_first (x ∷ xs) j m e l f =
    let same : length xs ≡ j = omega arith in
    let up : 128 * 256 ^ length xs ≤ x * 256 ^ length xs = mul-le-mul_right (256 ^ length xs) f in
    omega (arith, number-least x xs, ap (λ t. 256 ^ t) same)

pub long_above : (bs : List ℕ) (j m : ℕ) → m ≡ 128 * 256 ^ j → HasFirst bs → j + 1 < length bs → m ≤ number bs
long_above bs j m e f l =
    let more = more_bytes bs (j + 1) (256 ^ (j + 1)) refl f l in
    let up : 256 ^ (j + 1) ≡ 256 ^ j * 256 = ap (λ t. 256 ^ t) (add-one j) ∙ pow-suc 256 j in
    omega (arith, more, up)

pub least_modulus_is : least_modulus ≡ 128 * 256 ^ 255
unfolding least_modulus
least_modulus_is = refl

pub modulus_limit_is : modulus_limit ≡ 256 ^ 1024
unfolding modulus_limit
modulus_limit_is = refl

pub least_modulus-above_one : 1 < least_modulus
unfolding least_modulus
least_modulus-above_one = lit< tt

pub size_least : (bs : List ℕ) → AreOctets bs → nat_lt (number bs) least_modulus ≡ false → 256 ≤ length bs
size_least bs h t =
    elim (cases_lt (length bs) 256) [
      | inl l ↦ absurd (omega (arith, ltb-false (number bs) least_modulus t, short_below bs 255 least_modulus least_modulus_is h l))
      | inr g ↦ g
    ]

pub size_greatest : (bs : List ℕ) → HasFirst bs → nat_le modulus_limit (number bs) ≡ false → length bs ≤ 1024
size_greatest bs f t =
    elim (cases_lt 1024 (length bs)) [
      | inl l ↦ absurd (omega (arith, leb-false modulus_limit (number bs) t, more_bytes bs 1024 modulus_limit modulus_limit_is f l))
      | inr g ↦ g
    ]

pub has_bytes : (bs : List ℕ) → AreOctets bs → HasFirst bs → 0 < length bs → HasOctets (number bs) (length bs)
has_bytes bs h f l = (more_bytes bs (length bs - 1) (256 ^ (length bs - 1)) refl f (omega arith), number-lt bs h)

pub value_below-parity : (xs : List ℕ) (len : ℕ) → 1 ≤ len → value_below xs len % 2 ≡ get_or xs 0 0 % 2
value_below-parity xs zero h = absurd (omega arith)
value_below-parity xs (suc i) h = let e = value_below-above xs i in omega (arith, e.1)

-- the modulus has none of the faults
pub record HasNoFault (n : ℕ) : Type 0 where
  pub least : nat_lt n least_modulus ≡ false
  pub limit : nat_le modulus_limit n ≡ false
  pub odd : nat_eq (n % 2) 0 ≡ false

pub has_no_fault : (bs limbs : List ℕ) (n len : ℕ) → number bs ≡ n → nat_lt (number bs) least_modulus ≡ false → nat_le modulus_limit (number bs) ≡ false
    → 1 ≤ len → value_below limbs len ≡ number bs → (get_or limbs 0 0 % 2 ≡ 0 → ⊥) → HasNoFault n
has_no_fault bs limbs n len e t1 t2 low v odd =
    let same : n % 2 ≡ get_or limbs 0 0 % 2 = ap (λ t. t % 2) (sym e ∙ sym v) ∙ value_below-parity limbs len low in
    record {
      least = ap (λ t. nat_lt t least_modulus) (sym e) ∙ t1;
      limit = ap (λ t. nat_le modulus_limit t) (sym e) ∙ t2;
      odd = ne_eqb (n % 2) 0 (λ z. odd (sym same ∙ z));
    }

pub key_of-even_modulus : (n e : ℕ) → nat_lt n least_modulus ≡ false → nat_le modulus_limit n ≡ false → nat_eq (n % 2) 0 ≡ true
    → key_of n e ≡ Err ModulusEven
key_of-even_modulus n e t1 t2 t3 = rw (t1, t2, t3) refl

pub key_of-large_exponent : (n e : ℕ) → HasNoFault n → nat_le (2 ^ 64) e ≡ true → key_of n e ≡ Err ExponentTooLarge
key_of-large_exponent n e h t1 = rw (h.least, h.limit, h.odd, t1) refl

pub key_of-small_exponent : (n e : ℕ) → HasNoFault n → nat_le (2 ^ 64) e ≡ false → nat_lt e 3 ≡ true → key_of n e ≡ Err ExponentTooSmall
key_of-small_exponent n e h t1 t2 = rw (h.least, h.limit, h.odd, t1, t2) refl

pub key_of-even_exponent : (n e : ℕ) → HasNoFault n → nat_le (2 ^ 64) e ≡ false → nat_lt e 3 ≡ false → nat_eq (e % 2) 0 ≡ true
    → key_of n e ≡ Err ExponentEven
key_of-even_exponent n e h t1 t2 t3 = rw (h.least, h.limit, h.odd, t1, t2, t3) refl

pub key_of-taken : (n e : ℕ) → HasNoFault n → nat_le (2 ^ 64) e ≡ false → nat_lt e 3 ≡ false → nat_eq (e % 2) 0 ≡ false
    → key_of n e ≡ Ok (record { modulus = n; exponent = e })
key_of-taken n e h t1 t2 t3 = rw (h.least, h.limit, h.odd, t1, t2, t3) refl

-- a byte more makes a number of 56 bits or more one of 64 bits or more
pub exponent_too_large : (bs : List ℕ) (i n : ℕ) → i < length bs → n ≡ number (take i bs) → 2 ^ 56 ≤ n → 2 ^ 64 ≤ number bs
exponent_too_large bs i n h e large =
    let rest = drop i bs in
    let parts : number bs ≡ number_onto n rest =
    ap number (sym (take-append-drop i bs)) ∙ number_onto-append 0 (take i bs) rest ∙ ap (λ t. number_onto t rest) (sym e) in
    let one : 1 ≤ length rest = omega (arith, length-drop i bs) in
    let up : n * 256 ^ 1 ≤ n * 256 ^ length rest = mul-le-mul_left n (power_mono 1 (length rest) one) in
    omega (arith, parts, number_onto-least n rest, up)
