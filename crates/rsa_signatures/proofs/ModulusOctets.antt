-- The octets of a modulus are its digits in base 256.
use Rattle.std.proofs.Common.{◌≡◌, ℕ, ◌+◌, ◌*◌, ◌<◌, ◌≤◌, List, [], ◌∷◌, length, get_or, refl, sym, ap, subst, ◌∙◌, arith, ◌^◌, mul-le-mul_right}
use Rattle.std.proofs.lemmas.Int.Digits.{all_below_base_digits_of, first_digits_of, number_digits_of}
use Rattle.std.specs.Int.Digits.{AllBelowBase, digits_of, number_from_digits_after}
use Rattle.modular_arithmetic.specs.Octets.{number_onto, number, AreOctets}
use Rattle.modular_arithmetic.proofs.OctetNumbers.{AreOctets-nil, AreOctets-cons, power_some, same_octets}
use Rattle.rsa_signatures.specs.Octets.{HasOctets}
use Rattle.rsa_signatures.proofs.OctetNumbers.{HasOctets-one, number-least}
use Rattle.rsa_signatures.proofs.Keys.{has_bytes}

octets_from_digits : (ds : List ℕ) → AllBelowBase 256 ds → AreOctets ds
octets_from_digits [] h = AreOctets-nil
octets_from_digits (d ∷ ds) h = AreOctets-cons d ds h.0 (octets_from_digits ds h.1)

number_onto-digits : (n : ℕ) (ds : List ℕ) → number_onto n ds ≡ number_from_digits_after 256 n ds
unfolding number_onto
number_onto-digits n [] = refl
number_onto-digits n (d ∷ ds) =
    let turn : 256 * n + d ≡ n * 256 + d = omega arith in
    number_onto-digits (256 * n + d) ds ∙ ap (λ t. number_from_digits_after 256 t ds) turn

pub some_from_first : (xs : List ℕ) → 0 < get_or xs 0 0 → 0 < length xs
some_from_first [] h = absurd (omega arith)
some_from_first (x ∷ xs) h = omega arith

number_from_first : (xs : List ℕ) → 0 < get_or xs 0 0 → 0 < number xs
number_from_first [] h = absurd (omega arith)
number_from_first (x ∷ xs) h =
    let more : 1 * 256 ^ length xs ≤ x * 256 ^ length xs = mul-le-mul_right (256 ^ length xs) h in
    omega (arith, number-least x xs, more, power_some (length xs))

pub modulus_octets_are : (xs : List ℕ) (n : ℕ) → AreOctets xs → 0 < get_or xs 0 0 → number xs ≡ n → xs ≡ digits_of 256 n
modulus_octets_are xs n octets first e =
    let some : 0 < n = subst (λ t. 0 < t) e (number_from_first xs first) in
    let ds = digits_of 256 n in
    let ds-octets : AreOctets ds = octets_from_digits ds (all_below_base_digits_of 256 n (omega arith)) in
    let ds-first : 0 < get_or ds 0 0 = first_digits_of 256 n (omega arith) some in
    let back : number ds ≡ n = number_onto-digits 0 ds ∙ number_digits_of 256 n (omega arith) in
    let of-xs : HasOctets n (length xs) = subst (λ t. HasOctets t (length xs)) e (has_bytes xs octets (λ _. first) (some_from_first xs first)) in
    let of-ds : HasOctets n (length ds) = subst (λ t. HasOctets t (length ds)) back (has_bytes ds ds-octets (λ _. ds-first) (some_from_first ds ds-first)) in
    let up = HasOctets-one n (length xs) (length ds) of-xs of-ds in
    let down = HasOctets-one n (length ds) (length xs) of-ds of-xs in
    (same_octets 0 0 xs ds (omega arith) octets ds-octets (e ∙ sym back)).1
