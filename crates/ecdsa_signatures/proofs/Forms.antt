-- Numbers in Montgomery's form.
use Rattle.std.proofs.Common.{◌≡◌, ℕ, ◌+◌, ◌-◌, ◌*◌, ◌%◌, ◌<◌, ◌≤◌, ◌↔◌, List, Bool, false, IsTrue, refl, sym, ap, ◌∙◌, arith, mod-lt, mod-eq_of_lt}
use Rattle.std.proofs.Math.Nat.{mod-mod, zero-mod, add-mod_right}
use Rattle.modular_arithmetic.specs.Limbs.{limb_weight}
use Rattle.ecdsa_signatures.specs.Curve.{prime}
use Rattle.ecdsa_signatures.specs.private.Coordinates.{value, limb_count}
use Rattle.ecdsa_signatures.specs.private.Forms.{weight_inverse, held}
use Rattle.ecdsa_signatures.specs.declared.curve.EllipticCurve.{EllipticCurve}
use Rattle.ecdsa_signatures.specs.declared.curve.EllipticCurve.TheVariants.{P256, P384, P521}
use Rattle.ecdsa_signatures.proofs.Constants.{prime-above_zero}
use Rattle.ecdsa_signatures.proofs.Certificates.{prime_of_p256, prime_of_p384, prime_of_p521}
use Rattle.ecdsa_signatures.proofs.Primes.{Certified}
use Rattle.modular_arithmetic.proofs.MontgomeryForms.{form_product, zero_form, to_form, from_form, same_form}
use Rattle.modular_arithmetic.proofs.Same.{Same, same_of, same_sym, same_then, same_add, same_mul, same_refl, same_mod}

pub prime-certified : (c : EllipticCurve) → Certified (prime c)
unfolding prime
prime-certified P256 = prime_of_p256
prime-certified P384 = prime_of_p384
prime-certified P521 = prime_of_p521

weight-unit : (c : EllipticCurve) → Same (prime c) (limb_weight (limb_count c) * weight_inverse c) 1
unfolding prime limb_weight limb_count weight_inverse
weight-unit P256 = record { same = refl }
weight-unit P384 = record { same = refl }
weight-unit P521 = record { same = refl }

pub held-below : (c : EllipticCurve) (xs : List ℕ) → held c xs % prime c ≡ held c xs
unfolding held
held-below c xs = mod-mod (value c xs * weight_inverse c) (prime c)

-- limbs that a comparison with 0 tells apart from it
pub not_zero : (c : EllipticCurve) (xs : List ℕ) (is_zero : Bool) → IsTrue is_zero ↔ (held c xs ≡ 0) → is_zero ≡ false → held c xs % prime c ≡ 0 → ⊥
not_zero c xs is_zero told false-is e = let true-is = told.1 (sym (held-below c xs) ∙ e) in grind arith

pub held-lt : (c : EllipticCurve) (xs : List ℕ) → held c xs < prime c
unfolding held
held-lt c xs = mod-lt (value c xs * weight_inverse c) (prime-above_zero c)

pub held-product : (c : EllipticCurve) (r a b : List ℕ) → (value c r * limb_weight (limb_count c)) % prime c ≡ (value c a * value c b) % prime c
    → held c r ≡ (held c a * held c b) % prime c
unfolding held
held-product c r a b h =
    let p = prime c in
    let i = weight_inverse c in
    let s = form_product p (limb_weight (limb_count c)) i (value c r) (value c a) (value c b) (weight-unit c) (record { same = h }) in
    let m : (x : ℕ) → Same p (x * i) ((x * i) % p) = λ x. same_sym (record { same = mod-mod (x * i) p }) in
    (same_then s (same_mul (m (value c a)) (m (value c b)))).same

pub held-sum : (c : EllipticCurve) (r a b : List ℕ) → value c r ≡ (value c a + value c b) % prime c → held c r ≡ (held c a + held c b) % prime c
unfolding held
held-sum c r a b h =
    let p = prime c in
    let i = weight_inverse c in
    let m : (x : ℕ) → Same p (x * i) ((x * i) % p) = λ x. same_sym (record { same = mod-mod (x * i) p }) in
    let parts : (value c a + value c b) * i ≡ value c a * i + value c b * i = omega arith in
    (same_then (same_mul (same_mod p (value c r) (value c a + value c b) h) (same_refl i)) (same_then (same_of parts) (same_add (m (value c a)) (m (value c b))))).same

pub held-difference : (c : EllipticCurve) (r a b : List ℕ) → value c b ≤ prime c → value c r ≡ (value c a + (prime c - value c b)) % prime c
    → (held c r + held c b) % prime c ≡ held c a
unfolding held
held-difference c r a b l h =
    let p = prime c in
    let i = weight_inverse c in
    let m : (x : ℕ) → Same p ((x * i) % p) (x * i) = λ x. record { same = mod-mod (x * i) p } in
    let back : value c r * i + value c b * i ≡ (value c r + value c b) * i = omega arith in
    let whole : value c a + (p - value c b) + value c b ≡ value c a + p = omega arith in
    let sum : Same p (value c r + value c b) (value c a) =
    same_then (same_add (same_mod p (value c r) (value c a + (p - value c b)) h) (same_refl (value c b))) (same_then (same_of whole) (record { same = add-mod_right (value c a) p })) in
    (same_then (same_add (m (value c r)) (m (value c b))) (same_then (same_of back) (same_mul sum (same_refl i)))).same

pub held-zero : (c : EllipticCurve) (a : List ℕ) → value c a < prime c → (value c a ≡ 0) ↔ (held c a ≡ 0)
unfolding held
held-zero c a l =
    let p = prime c in
    let i = weight_inverse c in (
      λ e. ap (λ t. (t * i) % p) e ∙ (let none : 0 * i ≡ 0 = omega arith in ap (λ t. t % p) none) ∙ zero-mod p,
      λ e. sym (mod-eq_of_lt l) ∙ (zero_form p (limb_weight (limb_count c)) i (value c a) (weight-unit c) (record { same = e ∙ sym (zero-mod p) })).same ∙ zero-mod p,
    )

pub held-of : (c : EllipticCurve) (r a q : List ℕ) → value c a < prime c → value c q ≡ (limb_weight (limb_count c) * limb_weight (limb_count c)) % prime c
    → held c r ≡ (held c a * held c q) % prime c → held c r ≡ value c a
unfolding held
held-of c r a q l h e =
    let p = prime c in
    let i = weight_inverse c in
    let w = limb_weight (limb_count c) in
    let m : (x : ℕ) → Same p ((x * i) % p) (x * i) = λ x. record { same = mod-mod (x * i) p } in
    e ∙ (same_then (same_mul (m (value c a)) (m (value c q))) (to_form p w i (value c a) (value c q) (weight-unit c) (same_mod p (value c q) (w * w) h))).same ∙ mod-eq_of_lt l

pub value-from : (c : EllipticCurve) (r one a : List ℕ) → value c r < prime c → value c one ≡ 1
    → held c r ≡ (held c one * held c a) % prime c → value c r ≡ held c a
unfolding held
value-from c r one a l o e =
    let p = prime c in
    let i = weight_inverse c in
    let h = (value c a * i) % p in
    let m : (x : ℕ) → Same p ((x * i) % p) (x * i) = λ x. record { same = mod-mod (x * i) p } in
    let one-is : Same p ((value c one * i) % p) (1 * i) = same_then (m (value c one)) (same_mul (same_of o) (same_refl i)) in
    let s : Same p (value c r * i) (1 * i * h) = same_then (record { same = e }) (same_mul one-is (same_refl h)) in
    sym (mod-eq_of_lt l) ∙ (from_form p (limb_weight (limb_count c)) i (value c r) h (weight-unit c) s).same ∙ mod-mod (value c a * i) p

pub held-same : (c : EllipticCurve) (a b : List ℕ) → value c a < prime c → value c b < prime c → (value c a ≡ value c b) ↔ (held c a ≡ held c b)
unfolding held
held-same c a b l m =
    let p = prime c in
    let i = weight_inverse c in (
      λ e. ap (λ t. (t * i) % p) e,
      λ e. sym (mod-eq_of_lt l) ∙ (same_form p (limb_weight (limb_count c)) i (value c a) (value c b) (weight-unit c) (record { same = e })).same ∙ mod-eq_of_lt m,
    )
