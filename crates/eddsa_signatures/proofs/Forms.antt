-- Numbers in Montgomery's form.
use Rattle.std.proofs.Common.{◌≡◌, ℕ, ◌+◌, ◌-◌, ◌*◌, ◌%◌, ◌<◌, ◌≤◌, List, refl, sym, ap, ◌∙◌, arith, mod-lt, mod-eq_of_lt}
use Rattle.std.proofs.Math.Nat.{mod-mod, zero-mod, mod_self}
use Rattle.modular_arithmetic.specs.Limbs.{limb_weight, value_below}
use Rattle.eddsa_signatures.specs.Field.{prime}
use Rattle.eddsa_signatures.specs.Form.{weight_inverse, held}
use Rattle.eddsa_signatures.proofs.Constants.{prime-above_zero}
use Rattle.modular_arithmetic.proofs.MontgomeryForms.{form_product, to_form, from_form, same_form}
use Rattle.modular_arithmetic.proofs.Same.{Same, same_of, same_sym, same_then, same_add, same_mul, same_refl, same_cancel, same_mod}

weight-unit : Same prime (limb_weight 4 * weight_inverse) 1
unfolding prime limb_weight weight_inverse
weight-unit = record { same = refl }

pub held-lt : (xs : List ℕ) → held xs < prime
unfolding held
held-lt xs = mod-lt (value_below xs 4 * weight_inverse) prime-above_zero

residue : (x : ℕ) → Same prime ((x * weight_inverse) % prime) (x * weight_inverse)
residue x = record { same = mod-mod (x * weight_inverse) prime }

pub held-product : (r a b : List ℕ) → (value_below r 4 * limb_weight 4) % prime ≡ (value_below a 4 * value_below b 4) % prime
    → held r ≡ (held a * held b) % prime
unfolding held
held-product r a b h =
    let s = form_product prime (limb_weight 4) weight_inverse (value_below r 4) (value_below a 4) (value_below b 4) weight-unit (record { same = h }) in
    (same_then s (same_sym (same_mul (residue (value_below a 4)) (residue (value_below b 4))))).same

pub held-sum : (r a b : List ℕ) → value_below r 4 ≡ (value_below a 4 + value_below b 4) % prime → held r ≡ (held a + held b) % prime
unfolding held
held-sum r a b h =
    let i = weight_inverse in
    let parts : (value_below a 4 + value_below b 4) * i ≡ value_below a 4 * i + value_below b 4 * i = omega arith in
    (same_then (same_mul (same_mod prime (value_below r 4) (value_below a 4 + value_below b 4) h) (same_refl i))
    (same_then (same_of parts) (same_sym (same_add (residue (value_below a 4)) (residue (value_below b 4)))))).same

-- the form of p - b is that of the number's negative
pub held-rest : (r a b : List ℕ) → value_below b 4 ≤ prime → value_below r 4 ≡ prime - value_below b 4
    → (held a + held r) % prime ≡ (held a + (prime - held b)) % prime
unfolding held
held-rest r a b l h =
    let p = prime in
    let i = weight_inverse in
    let y = (value_below b 4 * i) % p in
    let y-below : y < p = mod-lt (value_below b 4 * i) prime-above_zero in
    let whole : value_below r 4 * i + value_below b 4 * i ≡ p * i = (let e : value_below r 4 + value_below b 4 ≡ p = omega (arith, h, l) in omega (arith, ap (λ t. t * i) e)) in
    let zero : Same p (p * i) 0 = (let none : 0 * i ≡ 0 = omega arith in same_then (same_mul (record { same = mod_self p ∙ sym (zero-mod p) }) (same_refl i)) (same_of none)) in
    let left : Same p ((value_below r 4 * i) % p + y) 0 = same_then (same_add (residue (value_below r 4)) (residue (value_below b 4))) (same_then (same_of whole) zero) in
    let back : p - y + y ≡ p = omega arith in
    let right : Same p (p - y + y) 0 = same_then (same_of back) (record { same = mod_self p ∙ sym (zero-mod p) }) in
    (same_add (same_refl ((value_below a 4 * i) % p)) (same_cancel y (same_then left (same_sym right)))).same

pub held-same : (a b : List ℕ) → value_below a 4 < prime → value_below b 4 < prime → held a ≡ held b → value_below a 4 ≡ value_below b 4
unfolding held
held-same a b l m e =
    sym (mod-eq_of_lt l) ∙ (same_form prime (limb_weight 4) weight_inverse (value_below a 4) (value_below b 4) weight-unit (record { same = e })).same ∙ mod-eq_of_lt m

pub held-of_same : (a b : List ℕ) → value_below a 4 ≡ value_below b 4 → held a ≡ held b
unfolding held
held-of_same a b e = ap (λ t. (t * weight_inverse) % prime) e

pub held-of : (r a q : List ℕ) → value_below a 4 < prime → Same prime (value_below q 4) (limb_weight 4 * limb_weight 4) → held r ≡ (held a * held q) % prime
    → held r ≡ value_below a 4
unfolding held
held-of r a q l h e =
    e ∙ (same_then (same_mul (residue (value_below a 4)) (residue (value_below q 4)))
    (to_form prime (limb_weight 4) weight_inverse (value_below a 4) (value_below q 4) weight-unit h)).same ∙ mod-eq_of_lt l

pub value-from : (r one a : List ℕ) → value_below r 4 < prime → value_below one 4 ≡ 1 → held r ≡ (held one * held a) % prime → value_below r 4 ≡ held a
unfolding held
value-from r one a l o e =
    let i = weight_inverse in
    let h = (value_below a 4 * i) % prime in
    let one-is : Same prime ((value_below one 4 * i) % prime) (1 * i) = same_then (residue (value_below one 4)) (same_mul (same_of o) (same_refl i)) in
    let s : Same prime (value_below r 4 * i) (1 * i * h) = same_then (record { same = e }) (same_mul one-is (same_refl h)) in
    sym (mod-eq_of_lt l) ∙ (from_form prime (limb_weight 4) i (value_below r 4) h weight-unit s).same ∙ mod-mod (value_below a 4 * i) prime
