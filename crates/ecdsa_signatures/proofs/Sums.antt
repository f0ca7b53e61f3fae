-- The cases of a sum, and the steps of a multiple.
use Rattle.std.proofs.Common.{◌≡◌, ℕ, suc, ◌+◌, ◌/◌, ◌%◌, ◌^◌, ◌↔◌, IsTrue, Bool, true, false, true≢false, Some, refl, sym, ap, ◌∙◌, pow-suc, add-one}
use Rattle.std.proofs.Math.Nat.{div-div-eq-div-mul}
use Rattle.std.proofs.lemmas.Bool.{eq-eqb, ne_eqb}
use Rattle.ecdsa_signatures.specs.declared.curve.EllipticCurve.{EllipticCurve}
use Rattle.ecdsa_signatures.specs.declared.jacobian.Addends.{Addends}
use Rattle.ecdsa_signatures.specs.private.Coordinates.{IsReduced}
use Rattle.ecdsa_signatures.specs.private.Forms.{form_point, chosen, AreAddends}
use Rattle.ecdsa_signatures.specs.Curve.{prime, Point, Infinity, Affine, chord, tangent, third, sum, odd_part, multiples_of}

pub sum-chord : (p x1 y1 x2 y2 : ℕ) → (x1 ≡ x2 → ⊥) → sum p (Affine x1 y1) (Affine x2 y2) ≡ third p (chord p x1 y1 x2 y2) x1 y1 x2
unfolding sum
sum-chord p x1 y1 x2 y2 h = rw (ne_eqb x1 x2 h) refl

pub sum-negative : (p x1 y1 x2 y2 : ℕ) → x1 ≡ x2 → y1 ≡ y2 → (y1 + y2) % p ≡ 0 → sum p (Affine x1 y1) (Affine x2 y2) ≡ Infinity
unfolding sum
sum-negative p x1 y1 x2 y2 h g e = rw (eq-eqb x1 x2 h, eq-eqb y1 y2 g, eq-eqb ((y1 + y2) % p) 0 e) refl

pub sum-other : (p x1 y1 x2 y2 : ℕ) → x1 ≡ x2 → (y1 ≡ y2 → ⊥) → sum p (Affine x1 y1) (Affine x2 y2) ≡ Infinity
unfolding sum
sum-other p x1 y1 x2 y2 h g = rw (eq-eqb x1 x2 h, ne_eqb y1 y2 g) refl

pub sum-tangent : (p x1 y1 x2 y2 : ℕ) → x1 ≡ x2 → y1 ≡ y2 → ((y1 + y2) % p ≡ 0 → ⊥)
    → sum p (Affine x1 y1) (Affine x2 y2) ≡ third p (tangent p x1 y1) x1 y1 x2
unfolding sum
sum-tangent p x1 y1 x2 y2 h g e = rw (eq-eqb x1 x2 h, eq-eqb y1 y2 g, ne_eqb ((y1 + y2) % p) 0 e) refl

pub sum-second_infinity : (p : ℕ) (q : Point) → sum p q Infinity ≡ q
unfolding sum
sum-second_infinity p Infinity = refl
sum-second_infinity p (Affine x y) = refl

half_of : (k i : ℕ) → k / 2 ^ i / 2 ≡ k / 2 ^ (i + 1)
half_of k i = div-div-eq-div-mul k (2 ^ i) 2 ∙ ap (λ t. k / t) (sym (ap (λ t. 2 ^ t) (add-one i) ∙ pow-suc 2 i))

pub multiples-start : (p u v : ℕ) (a b : Point) → multiples_of p 0 u v a b ≡ Infinity
unfolding multiples_of
multiples-start p u v a b = refl

multiples-next : (p bits u v i : ℕ) (a b : Point) → multiples_of p (suc bits) (u / 2 ^ i) (v / 2 ^ i) a b
    ≡ sum p (sum p (multiples_of p bits (u / 2 ^ (i + 1)) (v / 2 ^ (i + 1)) a b) (multiples_of p bits (u / 2 ^ (i + 1)) (v / 2 ^ (i + 1)) a b))
    (odd_part p (u / 2 ^ i) (v / 2 ^ i) a b)
unfolding multiples_of
multiples-next p bits u v i a b =
    (λ j. sum p (sum p (multiples_of p bits (half_of u i j) (half_of v i j) a b) (multiples_of p bits (half_of u i j) (half_of v i j) a b))
    (odd_part p (u / 2 ^ i) (v / 2 ^ i) a b))

-- one bit's turn of `multiples`: what the bits above it give is doubled
pub multiples-turn : (p bits more u v i above : ℕ) (a b : Point) → suc bits ≡ more → i + 1 ≡ above → multiples_of p more (u / 2 ^ i) (v / 2 ^ i) a b
    ≡ sum p (sum p (multiples_of p bits (u / 2 ^ above) (v / 2 ^ above) a b) (multiples_of p bits (u / 2 ^ above) (v / 2 ^ above) a b))
    (odd_part p (u / 2 ^ i) (v / 2 ^ i) a b)
multiples-turn p bits more u v i above a b e f =
    ap (λ t. multiples_of p t (u / 2 ^ i) (v / 2 ^ i) a b) (sym e) ∙ multiples-next p bits u v i a b
    ∙ ap (λ t. sum p (sum p (multiples_of p bits (u / 2 ^ t) (v / 2 ^ t) a b) (multiples_of p bits (u / 2 ^ t) (v / 2 ^ t) a b)) (odd_part p (u / 2 ^ i) (v / 2 ^ i) a b)) f

-- the cases of what is added for two bits
pub odd_part-both : (p u v : ℕ) (a b : Point) → u % 2 ≡ 1 → v % 2 ≡ 1 → odd_part p u v a b ≡ sum p a b
unfolding odd_part
odd_part-both p u v a b h k = rw (eq-eqb (u % 2) 1 h, eq-eqb (v % 2) 1 k) refl

pub odd_part-first : (p u v : ℕ) (a b : Point) → u % 2 ≡ 1 → (v % 2 ≡ 1 → ⊥) → odd_part p u v a b ≡ a
unfolding odd_part
odd_part-first p u v a b h k = rw (eq-eqb (u % 2) 1 h, ne_eqb (v % 2) 1 k) refl

pub odd_part-second : (p u v : ℕ) (a b : Point) → (u % 2 ≡ 1 → ⊥) → v % 2 ≡ 1 → odd_part p u v a b ≡ b
unfolding odd_part
odd_part-second p u v a b h k = rw (ne_eqb (u % 2) 1 h, eq-eqb (v % 2) 1 k) refl

pub odd_part-none : (p u v : ℕ) (a b : Point) → (u % 2 ≡ 1 → ⊥) → (v % 2 ≡ 1 → ⊥) → odd_part p u v a b ≡ Infinity
unfolding odd_part
odd_part-none p u v a b h k = rw (ne_eqb (u % 2) 1 h, ne_eqb (v % 2) 1 k) refl

-- what the code chooses is what the bits add
pub chosen-is : (c : EllipticCurve) (a : Addends) → AreAddends c a → (b d : Bool) (u v : ℕ) → IsTrue b ↔ (u % 2 ≡ 1) → IsTrue d ↔ (v % 2 ≡ 1)
    → form_point c (chosen a b d) ≡ odd_part (prime c) u v (form_point c (Some a.first)) (form_point c (Some a.second))
chosen-is c a h true true u v e f = h.sum_is ∙ sym (odd_part-both (prime c) u v _ _ (e.0 refl) (f.0 refl))
chosen-is c a h true false u v e f = sym (odd_part-first (prime c) u v _ _ (e.0 refl) (λ k. true≢false (sym (f.1 k))))
chosen-is c a h false true u v e f = sym (odd_part-second (prime c) u v _ _ (λ k. true≢false (sym (e.1 k))) (f.0 refl))
chosen-is c a h false false u v e f = sym (odd_part-none (prime c) u v _ _ (λ k. true≢false (sym (e.1 k))) (λ k. true≢false (sym (f.1 k))))

pub chosen-reduced : (c : EllipticCurve) (a : Addends) → AreAddends c a → (b d : Bool) → IsReduced c (chosen a b d)
chosen-reduced c a h true true = h.both
chosen-reduced c a h true false = h.first
chosen-reduced c a h false true = h.second
chosen-reduced c a h false false = tt
