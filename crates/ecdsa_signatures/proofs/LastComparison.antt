-- The comparison of the x of a point, modulo n, with r.
use Rattle.std.proofs.Common.{◌≡◌, ℕ, ◌+◌, ◌-◌, ◌*◌, ◌%◌, ◌<◌, ◌≤◌, ◌↔◌, ◌⊎◌, inl, inr, sym, ap, ◌∙◌, arith, mod-eq_of_lt}
use Rattle.std.proofs.Math.Nat.{add-mod_right}
use Rattle.std.proofs.lemmas.Bool.{cases_lt}
use Rattle.ecdsa_signatures.specs.Curve.{Point, Infinity, Affine}
use Rattle.ecdsa_signatures.specs.Signature.{HasX}
use Rattle.ecdsa_signatures.specs.private.Forms.{Represents}
use Rattle.ecdsa_signatures.proofs.Points.{quotient_x}
use Rattle.ecdsa_signatures.proofs.Primes.{Certified}
use Rattle.modular_arithmetic.proofs.Same.{Same}

mod_above : (n x : ℕ) → n ≤ x → x < 2 * n → x % n ≡ x - n
mod_above n x l m =
    let whole : x - n + n ≡ x = omega arith in
    ap (λ t. t % n) (sym whole) ∙ add-mod_right (x - n) n ∙ mod-eq_of_lt (omega arith)

-- a number below 2 n is its residue, or that and n
residue_cases : (n x r : ℕ) → x < 2 * n → x % n ≡ r → (x ≡ r) ⊎ (x ≡ r + n)
residue_cases n x r l h =
    elim (cases_lt x n) [
      | inl b ↦ inl (sym (mod-eq_of_lt b) ∙ h)
      | inr a ↦ let e : x - n ≡ r = sym (mod_above n x a l) ∙ h in inr (omega (arith, e, a))
    ]

residue_second : (n x r : ℕ) → r < n → x ≡ r + n → x % n ≡ r
residue_second n x r l e = ap (λ t. t % n) e ∙ add-mod_right r n ∙ mod-eq_of_lt l

pub infinity-has_no_x : (p n X Y Z r : ℕ) → Z % p ≡ 0 → (a : Point) → Represents p X Y Z a → HasX n a r → ⊥
unfolding Represents
infinity-has_no_x p n X Y Z r z Infinity h k = k
infinity-has_no_x p n X Y Z r z (Affine x y) h k = h.1.1.0 z

x-is : (p : ℕ) → Certified p → (X Y Z z a x y : ℕ) → X % p ≡ X → a < p → (Z % p ≡ 0 → ⊥) → Same p z (Z * Z) → Represents p X Y Z (Affine x y)
    → ((a * z) % p ≡ X) ↔ (a ≡ x)
unfolding Represents
x-is p k X Y Z z a x y res al nz hz h = quotient_x p k X Z z x a res h.0 al nz (record { same = h.1.1.1.0 }) hz

x-below : (p X Y Z x y : ℕ) → Represents p X Y Z (Affine x y) → x < p
unfolding Represents
x-below p X Y Z x y h = h.0

pub first-has_x : (p : ℕ) → Certified p → (n X Y Z z r : ℕ) → X % p ≡ X → r < n → r < p → (Z % p ≡ 0 → ⊥) → Same p z (Z * Z) → (r * z) % p ≡ X
    → (a : Point) → Represents p X Y Z a → HasX n a r
unfolding Represents
first-has_x p k n X Y Z z r res rn rp nz hz e Infinity h = absurd (nz h)
first-has_x p k n X Y Z z r res rn rp nz hz e (Affine x y) h =
    ap (λ t. t % n) (sym ((x-is p k X Y Z z r x y res rp nz hz h).0 e)) ∙ mod-eq_of_lt rn

-- x is not r, and r + n is not below p
pub none-has_x : (p : ℕ) → Certified p → (n X Y Z z r : ℕ) → X % p ≡ X → r < p → p < 2 * n → (Z % p ≡ 0 → ⊥) → Same p z (Z * Z) → ((r * z) % p ≡ X → ⊥)
    → p ≤ r + n → (a : Point) → Represents p X Y Z a → HasX n a r → ⊥
unfolding Represents
none-has_x p k n X Y Z z r res rp twice nz hz ne above Infinity h w = w
none-has_x p k n X Y Z z r res rp twice nz hz ne above (Affine x y) h w =
    let l = x-below p X Y Z x y h in
    elim (residue_cases n x r (omega arith) w) [
      | inl e ↦ ne ((x-is p k X Y Z z r x y res rp nz hz h).1 (sym e))
      | inr e ↦ absurd (omega (arith, e, l, above))
    ]

-- x is not r: it is r + n or not
pub second-has_x : (p : ℕ) → Certified p → (n X Y Z z r s : ℕ) → X % p ≡ X → r < n → r < p → p < 2 * n → (Z % p ≡ 0 → ⊥) → Same p z (Z * Z)
    → ((r * z) % p ≡ X → ⊥) → s ≡ r + n → s < p → (a : Point) → Represents p X Y Z a → ((s * z) % p ≡ X) ↔ HasX n a r
unfolding Represents
second-has_x p k n X Y Z z r s res rn rp twice nz hz ne is sl Infinity h = (λ e. nz h, λ w. absurd w)
second-has_x p k n X Y Z z r s res rn rp twice nz hz ne is sl (Affine x y) h =
    let l = x-below p X Y Z x y h in
    let x-of = x-is p k X Y Z z s x y res sl nz hz h in (
      λ e. residue_second n x r rn (sym (x-of.0 e) ∙ is),
      λ w. elim (residue_cases n x r (omega arith) w) [
        | inl e ↦ absurd (ne ((x-is p k X Y Z z r x y res rp nz hz h).1 (sym e)))
        | inr e ↦ x-of.1 (is ∙ sym e)
      ],
    )
