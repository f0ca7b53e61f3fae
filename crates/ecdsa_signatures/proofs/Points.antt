-- Points in Jacobian coordinates, and their sums.
use Rattle.std.proofs.Common.{◌≡◌, ℕ, ◌+◌, ◌-◌, ◌*◌, ◌%◌, ◌^◌, ◌<◌, ◌≤◌, ◌↔◌, inl, inr, refl, sym, ap, ◌∙◌, subst, arith, mul-one, one-mul, mod-lt, mod-eq_of_lt}
use Rattle.std.proofs.Math.Nat.{mod-mod, zero-mod, add-mod_right}
use Rattle.std.proofs.lemmas.Bool.{cases_eq}
use Rattle.ecdsa_signatures.specs.Curve.{Point, Infinity, Affine, inverse, difference, quotient, chord, tangent, third_x, third_y, sum}
use Rattle.ecdsa_signatures.specs.private.Forms.{Represents}
use Rattle.ecdsa_signatures.proofs.Sums.{sum-chord, sum-negative, sum-other, sum-tangent}
use Rattle.ecdsa_signatures.proofs.Primes.{Certified}
use Rattle.ecdsa_signatures.proofs.JacobianSums.{Doubled, Tangent, Added, Chord, doubled_z, double_represents, add_represents, added_h, added_r}
use Rattle.modular_arithmetic.proofs.Same.{Same, same_of, same_sym, same_then, same_add, same_mul, same_refl, same_cancel, same_mod, same_eq, same_to, same_twice}

one-residue : (p : ℕ) → Certified p → 1 % p ≡ 1
one-residue p h = mod-eq_of_lt h.prime.above

pub above_zero : (p : ℕ) → Certified p → 0 < p
above_zero p h = let a = h.prime.above in omega arith

-- each number but 0 has its inverse
pub unit : (p : ℕ) → Certified p → (x : ℕ) → (x % p ≡ 0 → ⊥) → Same p (x * inverse p x) 1
unfolding inverse
unit p h x nz = same_then (same_mul (same_refl x) (record { same = mod-mod (x ^ (p - 2)) p })) (record { same = h.little x nz ∙ sym (one-residue p h) })

pub residue_zero : (p a : ℕ) → Same p a 0 → a % p ≡ 0
residue_zero p a h = h.same ∙ zero-mod p

pub zero_residue : (p a : ℕ) → a % p ≡ 0 → Same p a 0
zero_residue p a h = record { same = h ∙ sym (zero-mod p) }

-- a factor that is not 0 can be left out
pub no_zero : (p : ℕ) → Certified p → (a b : ℕ) → (a % p ≡ 0 → ⊥) → Same p (a * b) 0 → Same p b 0
no_zero p h a b nz z =
    let i = inverse p a in
    let one : b ≡ 1 * b = sym (one-mul b) in
    let turn : a * i * b ≡ i * (a * b) = omega arith in
    let none : i * 0 ≡ 0 = omega arith in
    same_then (same_of one) (same_then (same_mul (same_sym (unit p h a nz)) (same_refl b)) (same_then (same_of turn) (same_then (same_mul (same_refl i) z) (same_of none))))

-- and so it can on both sides
pub same_factor : (p : ℕ) → Certified p → (d a b : ℕ) → (d % p ≡ 0 → ⊥) → Same p (d * a) (d * b) → Same p a b
same_factor p k d a b nz h =
    let i = inverse p d in
    let back : (t : ℕ) → Same p t (i * (d * t)) = λ t.
    (let one : t ≡ 1 * t = sym (one-mul t) in
    let turn : d * i * t ≡ i * (d * t) = omega arith in
    same_then (same_of one) (same_then (same_mul (same_sym (unit p k d nz)) (same_refl t)) (same_of turn))) in
    same_then (back a) (same_then (same_mul (same_refl i) h) (same_sym (back b)))

same_factor_square : (p : ℕ) → Certified p → (d a b : ℕ) → (d % p ≡ 0 → ⊥) → Same p (a * (d * d)) (b * (d * d)) → Same p a b
same_factor_square p k d a b nz h =
    let turn : (t : ℕ) → Same p (d * (d * t)) (t * (d * d)) = λ t. same_of (let ring : d * (d * t) ≡ t * (d * d) = omega arith in ring) in
    same_factor p k d a b nz (same_factor p k d (d * a) (d * b) nz (same_then (turn a) (same_then h (same_sym (turn b)))))

pub same_below : (p a b : ℕ) → a < p → b < p → Same p a b → a ≡ b
same_below p a b al bl h = sym (mod-eq_of_lt al) ∙ h.same ∙ mod-eq_of_lt bl

no_zero_square : (p : ℕ) → Certified p → (a b : ℕ) → (a % p ≡ 0 → ⊥) → Same p (b * (a * a)) 0 → Same p b 0
no_zero_square p h a b nz z =
    let turn : a * (a * b) ≡ b * (a * a) = omega arith in
    no_zero p h a b nz (no_zero p h a (a * b) nz (same_then (same_of turn) z))

no_zero_cube : (p : ℕ) → Certified p → (a b : ℕ) → (a % p ≡ 0 → ⊥) → Same p (b * (a * a * a)) 0 → Same p b 0
no_zero_cube p h a b nz z =
    let turn : a * (b * (a * a)) ≡ b * (a * a * a) = omega arith in
    no_zero_square p h a b nz (no_zero p h a (b * (a * a)) nz (same_then (same_of turn) z))

pub difference-is : (p a y : ℕ) → y ≤ p → Same p (difference p a y + y) a
difference-is p a y l =
    let whole : a + (p - y) + y ≡ a + p = omega arith in
    let m : Same p ((a + (p - y)) % p) (a + (p - y)) = record { same = mod-mod (a + (p - y)) p } in
    same_then (same_add m (same_refl y)) (same_then (same_of whole) (record { same = add-mod_right a p }))

pub difference-below : (p a y : ℕ) → 0 < p → difference p a y < p
difference-below p a y h = mod-lt (a + (p - y)) h

quotient-is : (p : ℕ) → Certified p → (a y : ℕ) → (y % p ≡ 0 → ⊥) → Same p (quotient p a y * y) a
quotient-is p h a y nz =
    let i = inverse p y in
    let m : Same p ((a * i) % p) (a * i) = record { same = mod-mod (a * i) p } in
    let turn : a * i * y ≡ a * (y * i) = omega arith in
    let one : a * 1 ≡ a = mul-one a in
    same_then (same_mul m (same_refl y)) (same_then (same_of turn) (same_then (same_mul (same_refl a) (unit p h y nz)) (same_of one)))

pub tangent-is : (p x y : ℕ) → Certified p → 3 ≤ p → x < p → y < p → ((y + y) % p ≡ 0 → ⊥)
    → Tangent p x y (tangent p x y) (third_x p (tangent p x y) x x) (difference p x (third_x p (tangent p x y) x x)) (third_y p (tangent p x y) x y (third_x p (tangent p x y) x x))
tangent-is p x y h three xl yl nz =
    let positive = above_zero p h in
    let l = tangent p x y in
    let above = difference p (3 * (x * x)) 3 in
    let twice : y + y ≡ 2 * y = omega arith in
    let below = (2 * y) % p in
    let m : Same p below (2 * y) = record { same = mod-mod (2 * y) p } in
    let slope : Same p (l * (2 * y)) above =
    same_then (same_mul (same_refl l) (same_sym m)) (quotient-is p h above below (λ z. nz (ap (λ t. t % p) twice ∙ sym (mod-mod (2 * y) p) ∙ z))) in
    let x3 = third_x p l x x in
    let part = difference p (l * l) x in
    let sum : x3 + 2 * x ≡ x3 + x + x = omega arith in
    let x3-below : x3 < p = difference-below p part x positive in
    record {
      slope = same_then (same_add slope (same_refl 3)) (difference-is p (3 * (x * x)) 3 three);
      x-is = same_then (same_of sum) (same_then (same_add (difference-is p part x (omega arith)) (same_refl x)) (difference-is p (l * l) x (omega arith)));
      e-is = difference-is p x x3 (omega arith);
      y-is = difference-is p (l * difference p x x3) y (omega arith);
    }

pub chord-is : (p x y u v : ℕ) → Certified p → x < p → y < p → u < p → v < p → (difference p u x % p ≡ 0 → ⊥)
    → Chord p x y u v (difference p u x) (difference p v y) (chord p x y u v) (third_x p (chord p x y u v) x u)
    (difference p x (third_x p (chord p x y u v) x u)) (third_y p (chord p x y u v) x y (third_x p (chord p x y u v) x u))
chord-is p x y u v h xl yl ul vl nz =
    let positive = above_zero p h in
    let l = chord p x y u v in
    let dx = difference p u x in
    let dy = difference p v y in
    let x3 = third_x p l x u in
    let part = difference p (l * l) x in
    let sum : x3 + (x + u) ≡ x3 + u + x = omega arith in
    let x3-below : x3 < p = difference-below p part u positive in
    record {
      dx-is = difference-is p u x (omega arith);
      dy-is = difference-is p v y (omega arith);
      slope = quotient-is p h dy dx nz;
      x-is = same_then (same_of sum) (same_then (same_add (difference-is p part u (omega arith)) (same_refl x)) (difference-is p (l * l) x (omega arith)));
      e-is = difference-is p x x3 (omega arith);
      y-is = difference-is p (l * difference p x x3) y (omega arith);
    }

pub represents-infinity : (p x y z : ℕ) → z ≡ 0 → Represents p x y z Infinity
unfolding Represents
represents-infinity p x y z e = ap (λ t. t % p) e ∙ zero-mod p

pub represents-affine : (p z a b : ℕ) → Certified p → a < p → b < p → z ≡ 1 → Represents p a b z (Affine a b)
unfolding Represents
represents-affine p z a b h al bl e =
    let square : a ≡ a * (1 * 1) = omega arith in
    let cube : b ≡ b * (1 * 1 * 1) = omega arith in (
      al,
      (
        bl,
        (
          λ w. (let one : 1 ≡ 0 = sym (one-residue p h) ∙ ap (λ t. t % p) (sym e) ∙ w in omega (arith, one)),
          (ap (λ t. t % p) square ∙ ap (λ t. (a * (t * t)) % p) (sym e), ap (λ t. t % p) cube ∙ ap (λ t. (b * (t * t * t)) % p) (sym e)),
        ),
      ),
    )

zero_times : (p a b c : ℕ) → Same p c (a * b) → Same p b 0 → Same p c 0
zero_times p a b c h k = let none : a * 0 ≡ 0 = omega arith in same_then h (same_then (same_mul (same_refl a) k) (same_of none))

double-affine : (p : ℕ) → Certified p → 3 ≤ p → (X Y Z d g b m s q a X3 Z3 h last f Y3 : ℕ)
    → Doubled p X Y Z d g b m s q a X3 Z3 h last f Y3 → (x y : ℕ) → x < p → y < p → (Z % p ≡ 0 → ⊥)
    → Same p X (x * (Z * Z)) → Same p Y (y * (Z * Z * Z)) → Represents p X3 Y3 Z3 (sum p (Affine x y) (Affine x y))
unfolding Represents
double-affine p k three X Y Z d g b m s q a X3 Z3 h last f Y3 c x y xl yl nz hX hY =
    let z-is : Same p Z3 (2 * (y * (Z * Z * Z) * Z)) = doubled_z p Y Z Z3 y c.z-is hY in
    elim (cases_eq ((y + y) % p) 0) [
      | inl e ↦
          let turn : 2 * (y * (Z * Z * Z) * Z) ≡ Z * (Z * Z * Z) * (y + y) = omega arith in
          let none : Z3 % p ≡ 0 = residue_zero p Z3 (zero_times p (Z * (Z * Z * Z)) (y + y) Z3 (same_then z-is (same_of turn)) (zero_residue p (y + y) e)) in
          subst (Represents p X3 Y3 Z3) (sym (sum-negative p x y x y refl refl e)) none
      | inr ne ↦
          let turn : 2 * (y * (Z * Z * Z) * Z) ≡ (y + y) * (Z * (Z * Z * Z)) = omega arith in
          let other : Z3 % p ≡ 0 → ⊥ = λ w. nz (residue_zero p Z (no_zero_cube p k Z Z nz
          (no_zero p k (y + y) (Z * (Z * Z * Z)) ne (same_then (same_sym (same_then z-is (same_of turn))) (zero_residue p Z3 w))))) in
          let l = tangent p x y in
          let x3 = third_x p l x x in
          let y3 = third_y p l x y x3 in
          let both = double_represents p X Y Z d g b m s q a X3 Z3 h last f Y3 x y l x3 (difference p x x3) y3 hX hY c (tangent-is p x y k three xl yl ne) in
          let x3-below : x3 < p = difference-below p (difference p (l * l) x) x (above_zero p k) in
          let y3-below : y3 < p = difference-below p (l * difference p x x3) y (above_zero p k) in
          subst (Represents p X3 Y3 Z3) (sym (sum-tangent p x y x y refl refl ne)) (x3-below, (y3-below, (other, (both.0.same, both.1.same))))
    ]

pub double-stands : (p : ℕ) → Certified p → 3 ≤ p → (X Y Z d g b m s q a X3 Z3 h last f Y3 : ℕ)
    → Doubled p X Y Z d g b m s q a X3 Z3 h last f Y3 → (o : Point) → Represents p X Y Z o → Represents p X3 Y3 Z3 (sum p o o)
unfolding Represents sum
double-stands p k three X Y Z d g b m s q a X3 Z3 h last f Y3 c Infinity r =
    let turn : 2 * (Y * Z) ≡ 2 * Y * Z = omega arith in
    residue_zero p Z3 (zero_times p (2 * Y) Z Z3 (same_then c.z-is (same_of turn)) (zero_residue p Z r))
double-stands p k three X Y Z d g b m s q a X3 Z3 h last f Y3 c (Affine x y) r =
    let hX : Same p X (x * (Z * Z)) = record { same = r.1.1.1.0 } in
    let hY : Same p Y (y * (Z * Z * Z)) = record { same = r.1.1.1.1 } in
    double-affine p k three X Y Z d g b m s q a X3 Z3 h last f Y3 c x y r.0 r.1.0 r.1.1.0 hX hY

-- what `add_affine` finds before it compares
pub record Compared (p X Y Z u v w s t h r : ℕ) : Type 0 where
  pub w-is : Same p w (Z * Z)
  pub s-is : Same p s (u * w)
  pub t-is : Same p t (v * (Z * w))
  pub h-is : Same p (h + X) s
  pub r-is : Same p (r + Y) t

-- numbers below p whose difference is 0
no_difference : (p x u : ℕ) → x < p → u < p → Same p (difference p u x) 0 → x ≡ u
no_difference p x u xl ul none =
    let first : 0 + x ≡ x = omega arith in
    let both : Same p x u = same_then (same_of (sym first)) (same_then (same_add (same_sym none) (same_refl x)) (difference-is p u x (omega arith))) in
    sym (mod-eq_of_lt xl) ∙ both.same ∙ mod-eq_of_lt ul

-- x and u are the same if h is 0
same_x : (p : ℕ) → Certified p → (X Y Z u v w s t h r x : ℕ) → Compared p X Y Z u v w s t h r → x < p → u < p → (Z % p ≡ 0 → ⊥)
    → Same p X (x * (Z * Z)) → Same p h 0 → x ≡ u
same_x p k X Y Z u v w s t h r x c xl ul nz hX z =
    let dx = difference p u x in
    let dx-is = difference-is p u x (omega arith) in
    let h-is = added_h p X Z x u w s h dx hX c.w-is c.s-is c.h-is dx-is in
    no_difference p x u xl ul (no_zero_square p k Z dx nz (same_then (same_sym h-is) z))

same_y : (p : ℕ) → Certified p → (X Y Z u v w s t h r y : ℕ) → Compared p X Y Z u v w s t h r → y < p → v < p → (Z % p ≡ 0 → ⊥)
    → Same p Y (y * (Z * Z * Z)) → Same p r 0 → y ≡ v
same_y p k X Y Z u v w s t h r y c yl vl nz hY z =
    let dy = difference p v y in
    let dy-is = difference-is p v y (omega arith) in
    let r-is = added_r p Y Z y v w t r dy hY c.w-is c.t-is c.r-is dy-is in
    no_difference p y v yl vl (no_zero_cube p k Z dy nz (same_then (same_sym r-is) z))

-- r is 0 if y and v are the same
other_y : (p : ℕ) → Certified p → (X Y Z u v w s t h r y : ℕ) → Compared p X Y Z u v w s t h r → y < p → v < p
    → Same p Y (y * (Z * Z * Z)) → y ≡ v → Same p r 0
other_y p k X Y Z u v w s t h r y c yl vl hY e =
    let dy = difference p v y in
    let dy-is = difference-is p v y (omega arith) in
    let r-is = added_r p Y Z y v w t r dy hY c.w-is c.t-is c.r-is dy-is in
    let first : v ≡ 0 + y = omega (arith, e) in
    let none : Same p dy 0 = same_cancel y (same_then dy-is (same_of first)) in
    let turn : dy * (Z * Z * Z) ≡ Z * Z * Z * dy = omega arith in
    zero_times p (Z * Z * Z) dy r (same_then r-is (same_of turn)) none

-- the cases of p + q
pub add-first_stands : (p X Y Z X3 Y3 Z3 u v : ℕ) → Z % p ≡ 0 → Represents p X3 Y3 Z3 (Affine u v) → (o : Point) → Represents p X Y Z o
    → Represents p X3 Y3 Z3 (sum p o (Affine u v))
unfolding Represents sum
add-first_stands p X Y Z X3 Y3 Z3 u v z h Infinity r = h
add-first_stands p X Y Z X3 Y3 Z3 u v z h (Affine x y) r = absurd (r.1.1.0 z)

pub add-same_stands : (p : ℕ) → Certified p → (X Y Z u v w s t h r X3 Y3 Z3 : ℕ) → Compared p X Y Z u v w s t h r → u < p → v < p → (Z % p ≡ 0 → ⊥)
    → Same p h 0 → Same p r 0 → ((o : Point) → Represents p X Y Z o → Represents p X3 Y3 Z3 (sum p o o))
    → (o : Point) → Represents p X Y Z o → Represents p X3 Y3 Z3 (sum p o (Affine u v))
unfolding Represents
add-same_stands p k X Y Z u v w s t h r X3 Y3 Z3 c ul vl nz hz rz twice Infinity q = absurd (nz q)
add-same_stands p k X Y Z u v w s t h r X3 Y3 Z3 c ul vl nz hz rz twice (Affine x y) q =
    let ex = same_x p k X Y Z u v w s t h r x c q.0 ul nz (record { same = q.1.1.1.0 }) hz in
    let ey = same_y p k X Y Z u v w s t h r y c q.1.0 vl nz (record { same = q.1.1.1.1 }) rz in
    subst (λ o. Represents p X3 Y3 Z3 (sum p (Affine x y) o)) (λ j. Affine (ex j) (ey j)) (twice (Affine x y) q)

pub add-other_stands : (p : ℕ) → Certified p → (X Y Z u v w s t h r X3 Y3 Z3 : ℕ) → Compared p X Y Z u v w s t h r → u < p → v < p → (Z % p ≡ 0 → ⊥)
    → Same p h 0 → (r % p ≡ 0 → ⊥) → Represents p X3 Y3 Z3 Infinity
    → (o : Point) → Represents p X Y Z o → Represents p X3 Y3 Z3 (sum p o (Affine u v))
unfolding Represents
add-other_stands p k X Y Z u v w s t h r X3 Y3 Z3 c ul vl nz hz rn none Infinity q = absurd (nz q)
add-other_stands p k X Y Z u v w s t h r X3 Y3 Z3 c ul vl nz hz rn none (Affine x y) q =
    let ex = same_x p k X Y Z u v w s t h r x c q.0 ul nz (record { same = q.1.1.1.0 }) hz in
    let ney : y ≡ v → ⊥ = λ e. rn (residue_zero p r (other_y p k X Y Z u v w s t h r y c q.1.0 vl (record { same = q.1.1.1.1 }) e)) in
    subst (Represents p X3 Y3 Z3) (sym (sum-other p x y u v ex ney)) none

add-affine : (p : ℕ) → Certified p → (X Y Z u v w s t h r h2 h3 c X3 f b Y3 Z3 : ℕ) → Added p X Y Z u v w s t h r h2 h3 c X3 f b Y3 Z3
    → u < p → v < p → (Z % p ≡ 0 → ⊥) → (h % p ≡ 0 → ⊥) → (x y : ℕ) → x < p → y < p → Same p X (x * (Z * Z)) → Same p Y (y * (Z * Z * Z))
    → Represents p X3 Y3 Z3 (sum p (Affine x y) (Affine u v))
unfolding Represents
add-affine p k X Y Z u v w s t h r h2 h3 c X3 f b Y3 Z3 a ul vl nz nh x y xl yl hX hY =
    let dx = difference p u x in
    let dy = difference p v y in
    let dx-is = difference-is p u x (omega arith) in
    let h-is = added_h p X Z x u w s h dx hX a.w-is a.s-is a.h-is dx-is in
    let turn : dx * (Z * Z) ≡ Z * Z * dx = omega arith in
    let dx-nz : dx % p ≡ 0 → ⊥ = λ e. nh (residue_zero p h (zero_times p (Z * Z) dx h (same_then h-is (same_of turn)) (zero_residue p dx e))) in
    let ne : x ≡ u → ⊥ = λ e.
    let first : u ≡ 0 + x = omega (arith, e) in
    dx-nz (residue_zero p dx (same_cancel x (same_then dx-is (same_of first)))) in
    let other : Z3 % p ≡ 0 → ⊥ = λ e. nh (residue_zero p h (no_zero p k Z h nz (same_then (same_sym a.z-is) (zero_residue p Z3 e)))) in
    let l = chord p x y u v in
    let x3 = third_x p l x u in
    let y3 = third_y p l x y x3 in
    let both = add_represents p X Y Z u v w s t h r h2 h3 c X3 f b Y3 Z3 x y dx dy l x3 (difference p x x3) y3 hX hY a (chord-is p x y u v k xl yl ul vl dx-nz) in
    let x3-below : x3 < p = difference-below p (difference p (l * l) x) u (above_zero p k) in
    let y3-below : y3 < p = difference-below p (l * difference p x x3) y (above_zero p k) in
    subst (Represents p X3 Y3 Z3) (sym (sum-chord p x y u v ne)) (x3-below, (y3-below, (other, (both.0.same, both.1.same))))

pub add-stands : (p : ℕ) → Certified p → (X Y Z u v w s t h r h2 h3 c X3 f b Y3 Z3 : ℕ) → Added p X Y Z u v w s t h r h2 h3 c X3 f b Y3 Z3
    → u < p → v < p → (Z % p ≡ 0 → ⊥) → (h % p ≡ 0 → ⊥) → (o : Point) → Represents p X Y Z o → Represents p X3 Y3 Z3 (sum p o (Affine u v))
unfolding Represents
add-stands p k X Y Z u v w s t h r h2 h3 c X3 f b Y3 Z3 a ul vl nz nh Infinity q = absurd (nz q)
add-stands p k X Y Z u v w s t h r h2 h3 c X3 f b Y3 Z3 a ul vl nz nh (Affine x y) q =
    add-affine p k X Y Z u v w s t h r h2 h3 c X3 f b Y3 Z3 a ul vl nz nh x y q.0 q.1.0 (record { same = q.1.1.1.0 }) (record { same = q.1.1.1.1 })

-- the point's own coordinates
pub affine-infinity : (p X Y Z : ℕ) → Z % p ≡ 0 → (o : Point) → Represents p X Y Z o → Infinity ≡ o
unfolding Represents
affine-infinity p X Y Z z Infinity r = refl
affine-infinity p X Y Z z (Affine x y) r = absurd (r.1.1.0 z)

affine_x : (p : ℕ) → Certified p → (X Z i j x f : ℕ) → Same p (Z * i) 1 → Same p j (i * i) → Same p X (x * (Z * Z)) → x < p → f ≡ (X * j) % p → f ≡ x
affine_x p k X Z i j x f u hj hX xl e =
    let turn : x * (Z * Z) * (i * i) ≡ x * (Z * i * (Z * i)) = omega arith in
    let one : x * (1 * 1) ≡ x = omega arith in
    e ∙ (same_then (same_mul hX hj) (same_then (same_of turn) (same_then (same_mul (same_refl x) (same_mul u u)) (same_of one)))).same ∙ mod-eq_of_lt xl

affine_y : (p : ℕ) → Certified p → (Y Z i j t y f : ℕ) → Same p (Z * i) 1 → Same p j (i * i) → Same p t (i * j) → Same p Y (y * (Z * Z * Z)) → y < p
    → f ≡ (Y * t) % p → f ≡ y
affine_y p k Y Z i j t y f u hj ht hY yl e =
    let turn : y * (Z * Z * Z) * (i * (i * i)) ≡ y * (Z * i * (Z * i * (Z * i))) = omega arith in
    let one : y * (1 * (1 * 1)) ≡ y = omega arith in
    let t-is = same_then ht (same_mul (same_refl i) hj) in
    e ∙ (same_then (same_mul hY t-is) (same_then (same_of turn) (same_then (same_mul (same_refl y) (same_mul u (same_mul u u))) (same_of one)))).same ∙ mod-eq_of_lt yl

pub affine-stands : (p : ℕ) → Certified p → (X Y Z i j t f g : ℕ) → (Z % p ≡ 0 → ⊥) → i ≡ inverse p Z → Same p j (i * i) → Same p t (i * j)
    → f ≡ (X * j) % p → g ≡ (Y * t) % p → (o : Point) → Represents p X Y Z o → Affine f g ≡ o
unfolding Represents
affine-stands p k X Y Z i j t f g nz hi hj ht ef eg Infinity r = absurd (nz r)
affine-stands p k X Y Z i j t f g nz hi hj ht ef eg (Affine x y) r =
    let u : Same p (Z * i) 1 = same_then (same_of (ap (λ s. Z * s) hi)) (unit p k Z nz) in
    let ex = affine_x p k X Z i j x f u hj (record { same = r.1.1.1.0 }) r.0 ef in
    let ey = affine_y p k Y Z i j t y g u hj ht (record { same = r.1.1.1.1 }) r.1.0 eg in
    (λ n. Affine (ex n) (ey n))

pub doubled-by : (p X Y Z d g b m s q t a b2 b4 b8 aa X3 yz Z3 h hh last f l Y3 : ℕ) → X % p ≡ X
    → d ≡ (Z * Z) % p → g ≡ (Y * Y) % p → b ≡ (X * g) % p → (m + d) % p ≡ X → s ≡ (X + d) % p → q ≡ (m * s) % p
    → t ≡ (q + q) % p → a ≡ (t + q) % p → b2 ≡ (b + b) % p → b4 ≡ (b2 + b2) % p → b8 ≡ (b4 + b4) % p → aa ≡ (a * a) % p
    → (X3 + b8) % p ≡ aa → yz ≡ (Y * Z) % p → Z3 ≡ (yz + yz) % p → h ≡ (g + g) % p → hh ≡ (h * h) % p → last ≡ (hh + hh) % p
    → (f + X3) % p ≡ b4 → l ≡ (a * f) % p → (Y3 + last) % p ≡ l → Doubled p X Y Z d g b m s q a X3 Z3 h last f Y3
doubled-by p X Y Z d g b m s q t a b2 b4 b8 aa X3 yz Z3 h hh last f l Y3 x-res d-is g-is b-is m-is s-is q-is t-is a-is b2-is b4-is b8-is aa-is x-is yz-is z-is h-is hh-is last-is f-is l-is y-is =
    let three : 2 * q + q ≡ 3 * q = omega arith in
    let four : 2 * (2 * b) ≡ 4 * b = omega arith in
    let eight : 2 * (4 * b) ≡ 8 * b = omega arith in
    let b4-same : Same p b4 (4 * b) = same_then (same_twice p b2 b4 b4-is) (same_then (same_mul (same_refl 2) (same_twice p b b2 b2-is)) (same_of four)) in
    let b8-same : Same p b8 (8 * b) = same_then (same_twice p b4 b8 b8-is) (same_then (same_mul (same_refl 2) b4-same) (same_of eight)) in
    record {
      d-is = same_mod p d (Z * Z) d-is;
      g-is = same_mod p g (Y * Y) g-is;
      b-is = same_mod p b (X * g) b-is;
      m-is = record { same = m-is ∙ sym x-res };
      s-is = same_mod p s (X + d) s-is;
      q-is = same_mod p q (m * s) q-is;
      a-is = same_then (same_mod p a (t + q) a-is) (same_then (same_add (same_twice p q t t-is) (same_refl q)) (same_of three));
      x-is = same_then (same_add (same_refl X3) (same_sym b8-same)) (same_to p (X3 + b8) aa (a * a) x-is aa-is);
      z-is = same_then (same_twice p yz Z3 z-is) (same_mul (same_refl 2) (same_mod p yz (Y * Z) yz-is));
      h-is = same_twice p g h h-is;
      last-is = same_then (same_twice p hh last last-is) (same_mul (same_refl 2) (same_mod p hh (h * h) hh-is));
      f-is = same_then (same_eq p (f + X3) b4 (b2 + b2) f-is b4-is) b4-same;
      y-is = same_to p (Y3 + last) l (a * f) y-is l-is;
    }

pub compared-by : (p X Y Z u v w zw s t h r : ℕ) → w ≡ (Z * Z) % p → zw ≡ (Z * w) % p → s ≡ (u * w) % p → t ≡ (v * zw) % p
    → (h + X) % p ≡ s → (r + Y) % p ≡ t → Compared p X Y Z u v w s t h r
compared-by p X Y Z u v w zw s t h r w-is zw-is s-is t-is h-is r-is = record {
  w-is = same_mod p w (Z * Z) w-is;
  s-is = same_mod p s (u * w) s-is;
  t-is = same_then (same_mod p t (v * zw) t-is) (same_mul (same_refl v) (same_mod p zw (Z * w) zw-is));
  h-is = same_eq p (h + X) s (u * w) h-is s-is;
  r-is = same_eq p (r + Y) t (v * zw) r-is t-is;
}

pub added-by : (p X Y Z u v w s t h r h2 h3 c cc b rr X3 f k l Y3 Z3 : ℕ) → Compared p X Y Z u v w s t h r
    → h2 ≡ (h * h) % p → h3 ≡ (h * h2) % p → c ≡ (X * h2) % p → cc ≡ (c + c) % p → b ≡ (h3 + cc) % p → rr ≡ (r * r) % p
    → (X3 + b) % p ≡ rr → (f + X3) % p ≡ c → k ≡ (Y * h3) % p → l ≡ (r * f) % p → (Y3 + k) % p ≡ l → Z3 ≡ (Z * h) % p
    → Added p X Y Z u v w s t h r h2 h3 c X3 f k Y3 Z3
added-by p X Y Z u v w s t h r h2 h3 c cc b rr X3 f k l Y3 Z3 a h2-is h3-is c-is cc-is b-is rr-is x-is f-is k-is l-is y-is z-is =
    let b-same : Same p b (h3 + 2 * c) = same_then (same_mod p b (h3 + cc) b-is) (same_add (same_refl h3) (same_twice p c cc cc-is)) in
    record {
      w-is = a.w-is;
      s-is = a.s-is;
      t-is = a.t-is;
      h-is = a.h-is;
      r-is = a.r-is;
      h2-is = same_mod p h2 (h * h) h2-is;
      h3-is = same_mod p h3 (h * h2) h3-is;
      c-is = same_mod p c (X * h2) c-is;
      x-is = same_then (same_add (same_refl X3) (same_sym b-same)) (same_to p (X3 + b) rr (r * r) x-is rr-is);
      f-is = same_eq p (f + X3) c (X * h2) f-is c-is;
      k-is = same_mod p k (Y * h3) k-is;
      y-is = same_to p (Y3 + k) l (r * f) y-is l-is;
      z-is = same_mod p Z3 (Z * h) z-is;
    }

-- the x of a point that limbs stand for
pub quotient_x : (p : ℕ) → Certified p → (X Z z x a : ℕ) → X % p ≡ X → x < p → a < p → (Z % p ≡ 0 → ⊥) → Same p X (x * (Z * Z)) → Same p z (Z * Z)
    → ((a * z) % p ≡ X) ↔ (a ≡ x)
quotient_x p k X Z z x a res xl al nz hX hz =
    let whole : (t : ℕ) → Same p (t * z) (t * (Z * Z)) = λ t. same_mul (same_refl t) hz in (
      λ e.
          let both : Same p (a * (Z * Z)) (x * (Z * Z)) = same_then (same_sym (whole a)) (same_then (record { same = e ∙ sym res }) hX) in
          same_below p a x al xl (same_factor_square p k Z a x nz both),
      λ e. (same_then (whole a) (same_then (same_of (ap (λ t. t * (Z * Z)) e)) (same_sym hX))).same ∙ res,
    )
