-- The points of a curve: two with the same x are the same point or opposite, and the sum of two points is a point of the curve.
use Rattle.std.proofs.Common.{◌≡◌, ℕ, zero, suc, ◌+◌, ◌*◌, ◌/◌, ◌%◌, ◌<◌, ◌⊎◌, inl, inr, refl, sym, subst, arith, lit<}
use Rattle.std.proofs.lemmas.Bool.{cases_eq}
use Rattle.ecdsa_signatures.specs.Curve.{prime, coefficient, generator_x, generator_y, generator, IsOnCurve, Point, Infinity, Affine, difference, chord, tangent, third_x, third_y, sum, odd_part, multiples_of}
use Rattle.ecdsa_signatures.specs.Signature.{found_point}
use Rattle.ecdsa_signatures.specs.declared.curve.EllipticCurve.{EllipticCurve}
use Rattle.ecdsa_signatures.specs.declared.curve.EllipticCurve.TheVariants.{P256, P384, P521}
use Rattle.ecdsa_signatures.proofs.Constants.{prime-above_three}
use Rattle.ecdsa_signatures.proofs.Forms.{prime-certified}
use Rattle.ecdsa_signatures.proofs.JacobianSums.{Tangent, Chord}
use Rattle.ecdsa_signatures.proofs.Points.{above_zero, residue_zero, zero_residue, no_zero, same_factor, same_below, difference-is, difference-below, tangent-is, chord-is}
use Rattle.ecdsa_signatures.proofs.Primes.{Certified}
use Rattle.ecdsa_signatures.proofs.Sums.{sum-chord, sum-negative, sum-other, sum-tangent, odd_part-both, odd_part-first, odd_part-second, odd_part-none}
use Rattle.modular_arithmetic.proofs.Same.{Same, same_of, same_sym, same_then, same_add, same_mul, same_refl, same_cancel}

-- the point at infinity, or coordinates below p that meet the equation
unfoldable pub IsPoint : EllipticCurve → Point → Type 0
IsPoint c Infinity = Unit {0}
IsPoint c (Affine x y) = (x < prime c) × ((y < prime c) × IsOnCurve c x y)

infinity-is_point : (c : EllipticCurve) → IsPoint c Infinity
unfolding IsPoint
infinity-is_point c = tt

-- roots of the same square
same_squares : (p : ℕ) → Certified p → (y v : ℕ) → y < p → v < p → Same p (y * y) (v * v) → (y ≡ v) ⊎ ((y + v) % p ≡ 0)
same_squares p k y v yl vl h =
    let d = difference p y v in
    let d-is : Same p (d + v) y = difference-is p y v (omega arith) in
    let ring : (d + v) * (d + v) ≡ d * (d + v + v) + v * v = omega arith in
    let none : v * v ≡ 0 + v * v = omega arith in
    let product : Same p (d * (d + v + v)) 0 =
    same_cancel (v * v) (same_then (same_of (sym ring)) (same_then (same_mul d-is d-is) (same_then h (same_of none)))) in
    elim (cases_eq (d % p) 0) [
      | inl e ↦
          let first : 0 + v ≡ v = omega arith in
          inl (same_below p y v yl vl (same_then (same_sym d-is) (same_then (same_add (zero_residue p d e) (same_refl v)) (same_of first))))
      | inr ne ↦ inr (residue_zero p (y + v) (same_then (same_add (same_sym d-is) (same_refl v)) (no_zero p k d (d + v + v) ne product)))
    ]

-- two points with the same x are the same point, or opposite
pub same_x-same_or_opposite : (c : EllipticCurve) (x y v : ℕ) → IsPoint c (Affine x y) → IsPoint c (Affine x v) → (y ≡ v) ⊎ ((y + v) % prime c ≡ 0)
unfolding IsPoint
same_x-same_or_opposite c x y v h k =
    let p = prime c in
    let squares : Same p (y * y + 3 * x) (v * v + 3 * x) = same_then (record { same = h.1.1 }) (same_sym (record { same = k.1.1 })) in
    same_squares p (prime-certified c) y v h.1.0 k.1.0 (same_cancel (3 * x) squares)

-- what makes the third point of the line through (x, y), of slope l, a root: x3 and u are its other x
IsRoot : ℕ → ℕ → ℕ → ℕ → ℕ → ℕ → Type 0
IsRoot p x y u l x3 = Same p (2 * (x * x) + x * x3 + x * u) (3 + x3 * u + 2 * (l * y))

third_square : (p x y u l x3 e y3 : ℕ) → Same p (x3 + (x + u)) (l * l) → Same p (y3 + y) (l * e)
    → Same p (y3 * y3 + 2 * (l * e * y)) ((x3 + (x + u)) * (e * e) + y * y)
third_square p x y u l x3 e y3 hx hy =
    let ring : y3 * y3 + 2 * ((y3 + y) * y) ≡ (y3 + y) * (y3 + y) + y * y = omega arith in
    let turn : l * e * (l * e) ≡ l * l * (e * e) = omega arith in
    same_then (same_add (same_refl (y3 * y3)) (same_mul (same_refl 2) (same_mul (same_sym hy) (same_refl y))))
    (same_then (same_of ring) (same_add (same_then (same_mul hy hy) (same_then (same_of turn) (same_mul (same_sym hx) (same_refl (e * e))))) (same_refl (y * y))))

-- the opposite of the third point of a line is on the curve too
third_on : (p b x y u l x3 e y3 : ℕ) → Same p (y * y + 3 * x) (x * x * x + b) → IsRoot p x y u l x3 → Same p (x3 + (x + u)) (l * l)
    → Same p (e + x3) x → Same p (y3 + y) (l * e) → Same p (y3 * y3 + 3 * x3) (x3 * x3 * x3 + b)
unfolding IsRoot
third_on p b x y u l x3 e y3 on root hx he hy =
    let w = e + x3 in
    let k = e * (3 + x3 * u + 2 * (l * y)) in
    let front : y3 * y3 + 3 * x3 + k ≡ y3 * y3 + 2 * (l * e * y) + (3 * w + e * (x3 * u)) = omega arith in
    let turn : (x3 + (x + u)) * (e * e) + y * y + (3 * x + e * (x3 * u)) ≡ (x3 + (x + u)) * (e * e) + (y * y + 3 * x) + e * (x3 * u) = omega arith in
    let cube : Same p (x * x * x) (w * w * w) = same_mul (same_mul (same_sym he) (same_sym he)) (same_sym he) in
    let all : Same p ((x3 + (x + u)) * (e * e) + (y * y + 3 * x) + e * (x3 * u)) ((x3 + (w + u)) * (e * e) + (w * w * w + b) + e * (x3 * u)) =
    same_add (same_add (same_mul (same_add (same_refl x3) (same_add (same_sym he) (same_refl u))) (same_refl (e * e)))
    (same_then on (same_add cube (same_refl b)))) (same_refl (e * (x3 * u))) in
    let left : Same p (y3 * y3 + 3 * x3 + k) ((x3 + (w + u)) * (e * e) + (w * w * w + b) + e * (x3 * u)) =
    same_then (same_of front) (same_then (same_add (third_square p x y u l x3 e y3 hx hy) (same_add (same_mul (same_refl 3) he) (same_refl (e * (x3 * u)))))
    (same_then (same_of turn) all)) in
    let square : Same p (2 * (x * x) + x * x3 + x * u) (2 * (w * w) + w * x3 + w * u) =
    same_add (same_add (same_mul (same_refl 2) (same_mul (same_sym he) (same_sym he))) (same_mul (same_sym he) (same_refl x3))) (same_mul (same_sym he) (same_refl u)) in
    let right : Same p (x3 * x3 * x3 + b + k) (x3 * x3 * x3 + b + e * (2 * (w * w) + w * x3 + w * u)) =
    same_add (same_refl (x3 * x3 * x3 + b)) (same_mul (same_refl e) (same_then (same_sym root) square)) in
    let ring : (x3 + (w + u)) * (e * e) + (w * w * w + b) + e * (x3 * u) ≡ x3 * x3 * x3 + b + e * (2 * (w * w) + w * x3 + w * u) = omega arith in
    same_cancel k (same_then left (same_then (same_of ring) (same_sym right)))

tangent_root : (p x y l x3 e y3 : ℕ) → Tangent p x y l x3 e y3 → IsRoot p x y x l x3
unfolding IsRoot
tangent_root p x y l x3 e y3 t =
    let front : 2 * (x * x) + x * x3 + x * x ≡ 3 * (x * x) + x * x3 = omega arith in
    let back : l * (2 * y) + 3 + x * x3 ≡ 3 + x3 * x + 2 * (l * y) = omega arith in
    same_then (same_of front) (same_then (same_add (same_sym t.slope) (same_refl (x * x3))) (same_of back))

chord_root : (p : ℕ) → Certified p → (b x y u v dx dy l x3 e y3 : ℕ) → Same p (y * y + 3 * x) (x * x * x + b) → Same p (v * v + 3 * u) (u * u * u + b)
    → (dx % p ≡ 0 → ⊥) → Chord p x y u v dx dy l x3 e y3 → IsRoot p x y u l x3
unfolding IsRoot
chord_root p c b x y u v dx dy l x3 e y3 on on2 nz g =
    let w = dx + x in
    let m = dx * dx in
    let k = (x + u) * m + (y * y + 3 * x) in
    let same_w : Same p u w = same_sym g.dx-is in
    let to_w : Same p (dx * (3 + x3 * u + 2 * (l * y)) + k) (dx * (3 + x3 * w + 2 * (l * y)) + k) =
    same_add (same_mul (same_refl dx) (same_add (same_add (same_refl 3) (same_mul (same_refl x3) same_w)) (same_refl (2 * (l * y))))) (same_refl k) in
    let parts : dx * (3 + x3 * w + 2 * (l * y)) + k ≡ x3 * x * dx + (x3 + (x + u)) * m + (2 * (l * dx * y) + y * y) + 3 * w = omega arith in
    let turn : l * l * m ≡ l * dx * (l * dx) = omega arith in
    let rise : Same p ((x3 + (x + u)) * m) (dy * dy) = same_then (same_mul g.x-is (same_refl m)) (same_then (same_of turn) (same_mul g.slope g.slope)) in
    let across : Same p (2 * (l * dx * y) + y * y) (2 * (dy * y) + y * y) =
    same_add (same_mul (same_refl 2) (same_mul g.slope (same_refl y))) (same_refl (y * y)) in
    let whole : x3 * x * dx + dy * dy + (2 * (dy * y) + y * y) + 3 * w ≡ x3 * x * dx + ((dy + y) * (dy + y) + 3 * w) = omega arith in
    let other : Same p ((dy + y) * (dy + y) + 3 * w) (w * w * w + b) =
    same_then (same_add (same_mul g.dy-is g.dy-is) (same_mul (same_refl 3) g.dx-is))
    (same_then on2 (same_add (same_mul (same_mul same_w same_w) same_w) (same_refl b))) in
    let right : Same p (dx * (3 + x3 * u + 2 * (l * y)) + k) (x3 * x * dx + (w * w * w + b)) =
    same_then to_w (same_then (same_of parts) (same_then (same_add (same_add (same_add (same_refl (x3 * x * dx)) rise) across) (same_refl (3 * w)))
    (same_then (same_of whole) (same_add (same_refl (x3 * x * dx)) other)))) in
    let left : Same p (dx * (2 * (x * x) + x * x3 + x * u) + k) (dx * (2 * (x * x) + x * x3 + x * w) + ((x + w) * m + (x * x * x + b))) =
    same_add (same_mul (same_refl dx) (same_add (same_refl (2 * (x * x) + x * x3)) (same_mul (same_refl x) same_w)))
    (same_add (same_mul (same_add (same_refl x) same_w) (same_refl m)) on) in
    let ring : dx * (2 * (x * x) + x * x3 + x * w) + ((x + w) * m + (x * x * x + b)) ≡ x3 * x * dx + (w * w * w + b) = omega arith in
    same_factor p c dx (2 * (x * x) + x * x3 + x * u) (3 + x3 * u + 2 * (l * y)) nz (same_cancel k (same_then left (same_then (same_of ring) (same_sym right))))

sum-of_same : (c : EllipticCurve) (x y : ℕ) → x < prime c → y < prime c → IsOnCurve c x y → IsPoint c (sum (prime c) (Affine x y) (Affine x y))
unfolding IsPoint
sum-of_same c x y xl yl on =
    let p = prime c in
    let k = prime-certified c in
    elim (cases_eq ((y + y) % p) 0) [
      | inl e ↦ subst (IsPoint c) (sym (sum-negative p x y x y refl refl e)) tt
      | inr ne ↦
          let l = tangent p x y in
          let x3 = third_x p l x x in
          let y3 = third_y p l x y x3 in
          let t = tangent-is p x y k (omega (arith, prime-above_three c)) xl yl ne in
          let twice : x3 + (x + x) ≡ x3 + 2 * x = omega arith in
          let x3-is : Same p (x3 + (x + x)) (l * l) = same_then (same_of twice) t.x-is in
          let root = tangent_root p x y l x3 (difference p x x3) y3 t in
          let on3 = third_on p (coefficient c) x y x l x3 (difference p x x3) y3 (record { same = on }) root x3-is t.e-is t.y-is in
          let x3-below : x3 < p = difference-below p (difference p (l * l) x) x (above_zero p k) in
          let y3-below : y3 < p = difference-below p (l * difference p x x3) y (above_zero p k) in
          subst (IsPoint c) (sym (sum-tangent p x y x y refl refl ne)) (x3-below, (y3-below, on3.same))
    ]

sum-of_others : (c : EllipticCurve) (x y u v : ℕ) → x < prime c → y < prime c → IsOnCurve c x y → u < prime c → v < prime c → IsOnCurve c u v → (x ≡ u → ⊥)
    → IsPoint c (sum (prime c) (Affine x y) (Affine u v))
unfolding IsPoint
sum-of_others c x y u v xl yl on ul vl on2 ne =
    let p = prime c in
    let k = prime-certified c in
    let dx = difference p u x in
    let dx-is : Same p (dx + x) u = difference-is p u x (omega arith) in
    let first : x ≡ 0 + x = omega arith in
    let dx-nz : dx % p ≡ 0 → ⊥ = λ e.
    ne (same_below p x u xl ul (same_then (same_of first) (same_then (same_add (same_sym (zero_residue p dx e)) (same_refl x)) dx-is))) in
    let l = chord p x y u v in
    let x3 = third_x p l x u in
    let y3 = third_y p l x y x3 in
    let g = chord-is p x y u v k xl yl ul vl dx-nz in
    let root = chord_root p k (coefficient c) x y u v dx (difference p v y) l x3 (difference p x x3) y3 (record { same = on }) (record { same = on2 }) dx-nz g in
    let on3 = third_on p (coefficient c) x y u l x3 (difference p x x3) y3 (record { same = on }) root g.x-is g.e-is g.y-is in
    let x3-below : x3 < p = difference-below p (difference p (l * l) x) u (above_zero p k) in
    let y3-below : y3 < p = difference-below p (l * difference p x x3) y (above_zero p k) in
    subst (IsPoint c) (sym (sum-chord p x y u v ne)) (x3-below, (y3-below, on3.same))

-- the sum of two points of a curve is a point of the curve
pub sum-is_point : (c : EllipticCurve) (a b : Point) → IsPoint c a → IsPoint c b → IsPoint c (sum (prime c) a b)
unfolding IsPoint sum
sum-is_point c Infinity b h k = k
sum-is_point c (Affine x y) Infinity h k = h
sum-is_point c (Affine x y) (Affine u v) h k =
    elim (cases_eq x u) [
      | inl e ↦ elim (cases_eq y v) [
        | inl f ↦ subst (λ o. IsPoint c (sum (prime c) (Affine x y) o)) (λ j. Affine (e j) (f j)) (sum-of_same c x y h.0 h.1.0 h.1.1)
        | inr nf ↦ subst (IsPoint c) (sym (sum-other (prime c) x y u v e nf)) tt
      ]
      | inr ne ↦ sum-of_others c x y u v h.0 h.1.0 h.1.1 k.0 k.1.0 k.1.1 ne
    ]

odd_part-is_point : (c : EllipticCurve) (u v : ℕ) (a b : Point) → IsPoint c a → IsPoint c b → IsPoint c (odd_part (prime c) u v a b)
odd_part-is_point c u v a b h k =
    let p = prime c in
    let is = IsPoint c in
    elim (cases_eq (u % 2) 1) [
      | inl e ↦ elim (cases_eq (v % 2) 1) [
        | inl f ↦ subst is (sym (odd_part-both p u v a b e f)) (sum-is_point c a b h k)
        | inr nf ↦ subst is (sym (odd_part-first p u v a b e nf)) h
      ]
      | inr ne ↦ elim (cases_eq (v % 2) 1) [
        | inl f ↦ subst is (sym (odd_part-second p u v a b ne f)) k
        | inr nf ↦ subst is (sym (odd_part-none p u v a b ne nf)) (infinity-is_point c)
      ]
    ]

multiples_of-is_point : (c : EllipticCurve) (bits u v : ℕ) (a b : Point) → IsPoint c a → IsPoint c b → IsPoint c (multiples_of (prime c) bits u v a b)
unfolding multiples_of
multiples_of-is_point c zero u v a b h k = infinity-is_point c
multiples_of-is_point c (suc bits) u v a b h k =
    let p = prime c in
    let half = multiples_of p bits (u / 2) (v / 2) a b in
    let half-is = multiples_of-is_point c bits (u / 2) (v / 2) a b h k in
    sum-is_point c (sum p half half) (odd_part p u v a b) (sum-is_point c half half half-is half-is) (odd_part-is_point c u v a b h k)

generator-is_point : (c : EllipticCurve) → IsPoint c (generator c)
unfolding IsPoint prime coefficient generator_x generator_y
generator-is_point P256 = (lit< tt, (lit< tt, refl))
generator-is_point P384 = (lit< tt, (lit< tt, refl))
generator-is_point P521 = (lit< tt, (lit< tt, refl))

-- and so is the point that a signature is compared with
pub found-is_point : (c : EllipticCurve) (e r s : ℕ) (q : Point) → IsPoint c q → IsPoint c (found_point c e r s q)
found-is_point c e r s q h = multiples_of-is_point c _ _ _ (generator c) q (generator-is_point c) h
