-- Sums in Jacobian coordinates are those in affine coordinates.
use Rattle.std.proofs.Common.{◌≡◌, ℕ, ◌+◌, ◌*◌, arith}
use Rattle.modular_arithmetic.proofs.Same.{Same, same_of, same_sym, same_then, same_add, same_mul, same_refl, same_cancel}

-- the steps of `double`
pub record Doubled (p X Y Z d g b m s q a X3 Z3 h last f Y3 : ℕ) : Type 0 where
  pub d-is : Same p d (Z * Z)
  pub g-is : Same p g (Y * Y)
  pub b-is : Same p b (X * g)
  pub m-is : Same p (m + d) X
  pub s-is : Same p s (X + d)
  pub q-is : Same p q (m * s)
  pub a-is : Same p a (3 * q)
  pub x-is : Same p (X3 + 8 * b) (a * a)
  pub z-is : Same p Z3 (2 * (Y * Z))
  pub h-is : Same p h (2 * g)
  pub last-is : Same p last (2 * (h * h))
  pub f-is : Same p (f + X3) (4 * b)
  pub y-is : Same p (Y3 + last) (a * f)

-- the tangent's point, of which l is the slope
pub record Tangent (p x y l x3 e y3 : ℕ) : Type 0 where
  pub slope : Same p (l * (2 * y) + 3) (3 * (x * x))
  pub x-is : Same p (x3 + 2 * x) (l * l)
  pub e-is : Same p (e + x3) x
  pub y-is : Same p (y3 + y) (l * e)

pub doubled_z : (p Y Z Z3 y : ℕ) → Same p Z3 (2 * (Y * Z)) → Same p Y (y * (Z * Z * Z)) → Same p Z3 (2 * (y * (Z * Z * Z) * Z))
doubled_z p Y Z Z3 y h k = same_then h (same_mul (same_refl 2) (same_mul k (same_refl Z)))

doubled_a : (p X Z x y l d m s q a Z3 : ℕ) → Same p X (x * (Z * Z)) → Same p d (Z * Z) → Same p (m + d) X → Same p s (X + d)
    → Same p q (m * s) → Same p a (3 * q) → Same p Z3 (2 * (y * (Z * Z * Z) * Z)) → Same p (l * (2 * y) + 3) (3 * (x * x)) → Same p a (l * Z3)
doubled_a p X Z x y l d m s q a Z3 hX hd hm hs hq ha hZ hl =
    let w = Z * Z in
    let s-is : Same p s (m + d + d) = same_then hs (same_add (same_sym hm) (same_refl d)) in
    let q-is : Same p (q + d * d) (m * (m + d + d) + d * d) = same_add (same_then hq (same_mul (same_refl m) s-is)) (same_refl (d * d)) in
    let square : m * (m + d + d) + d * d ≡ (m + d) * (m + d) = omega arith in
    let q-whole : Same p (q + d * d) (x * w * (x * w)) = same_then q-is (same_then (same_of square) (same_mul (same_then hm hX) (same_then hm hX))) in
    let three : 3 * q + 3 * (d * d) ≡ 3 * (q + d * d) = omega arith in
    let left : Same p (a + 3 * (d * d)) (3 * (x * w * (x * w))) =
    same_then (same_add ha (same_refl (3 * (d * d)))) (same_then (same_of three) (same_mul (same_refl 3) q-whole)) in
    let right : Same p (l * Z3 + 3 * (d * d)) (l * (2 * (y * (Z * Z * Z) * Z)) + 3 * (w * w)) =
    same_add (same_mul (same_refl l) hZ) (same_mul (same_refl 3) (same_mul hd hd)) in
    let ring : l * (2 * (y * (Z * Z * Z) * Z)) + 3 * (w * w) ≡ (l * (2 * y) + 3) * (w * w) = omega arith in
    let ring2 : 3 * (x * x) * (w * w) ≡ 3 * (x * w * (x * w)) = omega arith in
    let other : Same p (l * Z3 + 3 * (d * d)) (3 * (x * w * (x * w))) =
    same_then right (same_then (same_of ring) (same_then (same_mul hl (same_refl (w * w))) (same_of ring2))) in
    same_cancel (3 * (d * d)) (same_then left (same_sym other))

doubled_b : (p X Y Z x y g b Z3 : ℕ) → Same p X (x * (Z * Z)) → Same p Y (y * (Z * Z * Z)) → Same p g (Y * Y) → Same p b (X * g)
    → Same p Z3 (2 * (y * (Z * Z * Z) * Z)) → Same p (4 * b) (x * (Z3 * Z3))
doubled_b p X Y Z x y g b Z3 hX hY hg hb hZ =
    let v = y * (Z * Z * Z) in
    let t = 2 * (v * Z) in
    let b-is : Same p (4 * b) (4 * (x * (Z * Z) * (v * v))) = same_mul (same_refl 4) (same_then hb (same_mul hX (same_then hg (same_mul hY hY)))) in
    let ring : 4 * (x * (Z * Z) * (v * v)) ≡ x * (t * t) = omega arith in
    same_then b-is (same_then (same_of ring) (same_mul (same_refl x) (same_sym (same_mul hZ hZ))))

-- X3 / Z3 ^ 2
sum_x : (p x3 c l a X3 b Z3 : ℕ) → Same p (X3 + b) (a * a) → Same p a (l * Z3) → Same p (x3 + c) (l * l) → Same p b (c * (Z3 * Z3))
    → Same p X3 (x3 * (Z3 * Z3))
sum_x p x3 c l a X3 b Z3 hX ha hx hb =
    let w = Z3 * Z3 in
    let ring : l * Z3 * (l * Z3) ≡ l * l * w = omega arith in
    let parts : (x3 + c) * w ≡ x3 * w + c * w = omega arith in
    let whole : Same p (X3 + b) (x3 * w + c * w) =
    same_then hX (same_then (same_mul ha ha) (same_then (same_of ring) (same_then (same_mul (same_sym hx) (same_refl w)) (same_of parts)))) in
    same_cancel b (same_then whole (same_add (same_refl (x3 * w)) (same_sym hb)))

-- Y3 / Z3 ^ 3
sum_y : (p x x3 y y3 e l a X3 v f Y3 last Z3 : ℕ) → Same p (f + X3) v → Same p v (x * (Z3 * Z3)) → Same p X3 (x3 * (Z3 * Z3)) → Same p (e + x3) x
    → Same p (Y3 + last) (a * f) → Same p a (l * Z3) → Same p (y3 + y) (l * e) → Same p last (y * (Z3 * Z3 * Z3)) → Same p Y3 (y3 * (Z3 * Z3 * Z3))
sum_y p x x3 y y3 e l a X3 v f Y3 last Z3 hf hv hX he hY ha hy hlast =
    let w = Z3 * Z3 in
    let parts : (e + x3) * w ≡ e * w + x3 * w = omega arith in
    let f-whole : Same p (f + X3) (e * w + X3) =
    same_then hf (same_then hv (same_then (same_mul (same_sym he) (same_refl w)) (same_then (same_of parts) (same_add (same_refl (e * w)) (same_sym hX))))) in
    let f-is : Same p f (e * w) = same_cancel X3 f-whole in
    let ring : l * Z3 * (e * w) ≡ l * e * (w * Z3) = omega arith in
    let parts2 : (y3 + y) * (w * Z3) ≡ y3 * (w * Z3) + y * (w * Z3) = omega arith in
    let whole : Same p (Y3 + last) (y3 * (w * Z3) + y * (w * Z3)) =
    same_then hY (same_then (same_mul ha f-is) (same_then (same_of ring) (same_then (same_mul (same_sym hy) (same_refl (w * Z3))) (same_of parts2)))) in
    same_cancel last (same_then whole (same_add (same_refl (y3 * (w * Z3))) (same_sym hlast)))

doubled_last : (p Y Z y g h last Z3 : ℕ) → Same p Y (y * (Z * Z * Z)) → Same p g (Y * Y) → Same p h (2 * g) → Same p last (2 * (h * h))
    → Same p Z3 (2 * (y * (Z * Z * Z) * Z)) → Same p last (y * (Z3 * Z3 * Z3))
doubled_last p Y Z y g h last Z3 hY hg hh hlast hZ =
    let v = y * (Z * Z * Z) in
    let t = 2 * (v * Z) in
    let h-is : Same p h (2 * (v * v)) = same_then hh (same_mul (same_refl 2) (same_then hg (same_mul hY hY))) in
    let ring : 2 * (2 * (v * v) * (2 * (v * v))) ≡ y * (t * t * t) = omega arith in
    same_then hlast (same_then (same_mul (same_refl 2) (same_mul h-is h-is)) (same_then (same_of ring) (same_mul (same_refl y) (same_sym (same_mul (same_mul hZ hZ) hZ)))))

pub double_represents : (p X Y Z d g b m s q a X3 Z3 h last f Y3 x y l x3 e y3 : ℕ) → Same p X (x * (Z * Z)) → Same p Y (y * (Z * Z * Z))
    → Doubled p X Y Z d g b m s q a X3 Z3 h last f Y3 → Tangent p x y l x3 e y3
    → (Same p X3 (x3 * (Z3 * Z3))) × (Same p Y3 (y3 * (Z3 * Z3 * Z3)))
double_represents p X Y Z d g b m s q a X3 Z3 h last f Y3 x y l x3 e y3 hX hY c t =
    let z = doubled_z p Y Z Z3 y c.z-is hY in
    let a-is = doubled_a p X Z x y l d m s q a Z3 hX c.d-is c.m-is c.s-is c.q-is c.a-is z t.slope in
    let b-is = doubled_b p X Y Z x y g b Z3 hX hY c.g-is c.b-is z in
    let ring : 8 * b ≡ 2 * (4 * b) = omega arith in
    let ring2 : 2 * (x * (Z3 * Z3)) ≡ 2 * x * (Z3 * Z3) = omega arith in
    let b8 : Same p (8 * b) (2 * x * (Z3 * Z3)) = same_then (same_of ring) (same_then (same_mul (same_refl 2) b-is) (same_of ring2)) in
    let x-is = sum_x p x3 (2 * x) l a X3 (8 * b) Z3 c.x-is a-is t.x-is b8 in
    (x-is, sum_y p x x3 y y3 e l a X3 (4 * b) f Y3 last Z3 c.f-is b-is x-is t.e-is c.y-is a-is t.y-is (doubled_last p Y Z y g h last Z3 hY c.g-is c.h-is c.last-is z))

-- the steps of `add_affine`, where the two x differ
pub record Added (p X Y Z u v w s t h r h2 h3 c X3 f k Y3 Z3 : ℕ) : Type 0 where
  pub w-is : Same p w (Z * Z)
  pub s-is : Same p s (u * w)
  pub t-is : Same p t (v * (Z * w))
  pub h-is : Same p (h + X) s
  pub r-is : Same p (r + Y) t
  pub h2-is : Same p h2 (h * h)
  pub h3-is : Same p h3 (h * h2)
  pub c-is : Same p c (X * h2)
  pub x-is : Same p (X3 + (h3 + 2 * c)) (r * r)
  pub f-is : Same p (f + X3) c
  pub k-is : Same p k (Y * h3)
  pub y-is : Same p (Y3 + k) (r * f)
  pub z-is : Same p Z3 (Z * h)

-- the chord's point, of which l is the slope
pub record Chord (p x y u v dx dy l x3 e y3 : ℕ) : Type 0 where
  pub dx-is : Same p (dx + x) u
  pub dy-is : Same p (dy + y) v
  pub slope : Same p (l * dx) dy
  pub x-is : Same p (x3 + (x + u)) (l * l)
  pub e-is : Same p (e + x3) x
  pub y-is : Same p (y3 + y) (l * e)

-- h is (u - x) Z ^ 2
pub added_h : (p X Z x u w s h dx : ℕ) → Same p X (x * (Z * Z)) → Same p w (Z * Z) → Same p s (u * w) → Same p (h + X) s → Same p (dx + x) u
    → Same p h (dx * (Z * Z))
added_h p X Z x u w s h dx hX hw hs hh hd =
    let z = Z * Z in
    let parts : (dx + x) * z ≡ dx * z + x * z = omega arith in
    let whole : Same p (h + X) (dx * z + X) =
    same_then hh (same_then hs (same_then (same_mul (same_sym hd) hw) (same_then (same_of parts) (same_add (same_refl (dx * z)) (same_sym hX))))) in
    same_cancel X whole

-- r is (v - y) Z ^ 3
pub added_r : (p Y Z y v w t r dy : ℕ) → Same p Y (y * (Z * Z * Z)) → Same p w (Z * Z) → Same p t (v * (Z * w)) → Same p (r + Y) t → Same p (dy + y) v
    → Same p r (dy * (Z * Z * Z))
added_r p Y Z y v w t r dy hY hw ht hr hd =
    let z = Z * Z * Z in
    let turn : v * (Z * (Z * Z)) ≡ v * z = omega arith in
    let t-is : Same p t (v * z) = same_then ht (same_then (same_mul (same_refl v) (same_mul (same_refl Z) hw)) (same_of turn)) in
    let parts : (dy + y) * z ≡ dy * z + y * z = omega arith in
    let whole : Same p (r + Y) (dy * z + Y) =
    same_then hr (same_then t-is (same_then (same_mul (same_sym hd) (same_refl z)) (same_then (same_of parts) (same_add (same_refl (dy * z)) (same_sym hY))))) in
    same_cancel Y whole

pub add_represents : (p X Y Z u v w s t h r h2 h3 c X3 f k Y3 Z3 x y dx dy l x3 e y3 : ℕ) → Same p X (x * (Z * Z)) → Same p Y (y * (Z * Z * Z))
    → Added p X Y Z u v w s t h r h2 h3 c X3 f k Y3 Z3 → Chord p x y u v dx dy l x3 e y3
    → (Same p X3 (x3 * (Z3 * Z3))) × (Same p Y3 (y3 * (Z3 * Z3 * Z3)))
add_represents p X Y Z u v w s t h r h2 h3 c X3 f k Y3 Z3 x y dx dy l x3 e y3 hX hY a g =
    let h-is = added_h p X Z x u w s h dx hX a.w-is a.s-is a.h-is g.dx-is in
    let r-is = added_r p Y Z y v w t r dy hY a.w-is a.t-is a.r-is g.dy-is in
    let q = dx * (Z * Z) in
    let z-is : Same p Z3 (Z * q) = same_then a.z-is (same_mul (same_refl Z) h-is) in
    let slope : l * dx * (Z * Z * Z) ≡ l * (Z * q) = omega arith in
    let r-slope : Same p r (l * Z3) =
    same_then r-is (same_then (same_mul (same_sym g.slope) (same_refl (Z * Z * Z))) (same_then (same_of slope) (same_mul (same_refl l) (same_sym z-is)))) in
    let h2-is : Same p h2 (q * q) = same_then a.h2-is (same_mul h-is h-is) in
    let h3-is : Same p h3 (q * (q * q)) = same_then a.h3-is (same_mul h-is h2-is) in
    let square : Same p (Z3 * Z3) (Z * q * (Z * q)) = same_mul z-is z-is in
    let c-ring : x * (Z * Z) * (q * q) ≡ x * (Z * q * (Z * q)) = omega arith in
    let c-is : Same p c (x * (Z3 * Z3)) = same_then a.c-is (same_then (same_mul hX h2-is) (same_then (same_of c-ring) (same_mul (same_refl x) (same_sym square)))) in
    let h3-ring : q * (q * q) ≡ dx * (Z * q * (Z * q)) = omega arith in
    let h3-dx : Same p h3 (dx * (Z3 * Z3)) = same_then h3-is (same_then (same_of h3-ring) (same_mul (same_refl dx) (same_sym square))) in
    let m = Z3 * Z3 in
    let sum-ring : dx * m + 2 * (x * m) ≡ (x + (dx + x)) * m = omega arith in
    let b-is : Same p (h3 + 2 * c) ((x + u) * m) =
    same_then (same_add h3-dx (same_mul (same_refl 2) c-is)) (same_then (same_of sum-ring) (same_mul (same_add (same_refl x) g.dx-is) (same_refl m))) in
    let x-is = sum_x p x3 (x + u) l r X3 (h3 + 2 * c) Z3 a.x-is r-slope g.x-is b-is in
    let k-ring : y * (Z * Z * Z) * (q * (q * q)) ≡ y * (Z * q * (Z * q) * (Z * q)) = omega arith in
    let k-is : Same p k (y * (Z3 * Z3 * Z3)) =
    same_then a.k-is (same_then (same_mul hY h3-is) (same_then (same_of k-ring) (same_mul (same_refl y) (same_sym (same_mul square z-is))))) in
    (x-is, sum_y p x x3 y y3 e l r X3 c f Y3 k Z3 a.f-is c-is x-is g.e-is a.y-is r-slope g.y-is k-is)
