-- Numbers in Montgomery's form, and points in Jacobian coordinates.
use Rattle.std.specs.Prelude.{◌≡◌, ℕ, ◌*◌, ◌%◌, ◌<◌, List, Option, Some, None, Bool, true, false}
use Rattle.ecdsa_signatures.specs.Curve.{prime, Point, Infinity, Affine, sum}
use Rattle.ecdsa_signatures.specs.private.Coordinates.{value, IsReduced}
use Rattle.ecdsa_signatures.specs.declared.curve.EllipticCurve.{EllipticCurve}
use Rattle.ecdsa_signatures.specs.declared.curve.EllipticCurve.TheVariants.{P256, P384, P521}
use Rattle.ecdsa_signatures.specs.declared.jacobian.Addends.{Addends}
use Rattle.ecdsa_signatures.specs.declared.jacobian.JacobianPoint.{JacobianPoint}
use Rattle.ecdsa_signatures.specs.declared.point.AffinePoint.{AffinePoint}

-- the inverse, modulo p, of the weight above the limbs of a curve
unfoldable pub weight_inverse : EllipticCurve → ℕ
weight_inverse P256 = 0xfffffffe00000003fffffffd0000000200000001fffffffe0000000300000000
weight_inverse P384 =
    0x14000000140000000c00000002fffffffcfffffffafffffffbfffffffdffffffebffffffd8ffffffe100000006
weight_inverse P521 =
    0x400000000000000000000000000000000000000000000000000000000000000000000000000000000000000000000000000000000000000000000

-- the number that limbs in Montgomery's form stand for
unfoldable pub held : EllipticCurve → List ℕ → ℕ
held c limbs = (value c limbs * weight_inverse c) % prime c

-- x, y and z stand for a point in Jacobian coordinates modulo p: its coordinates are x / z ^ 2 and y / z ^ 3, and z is 0 for the point at
-- infinity
unfoldable pub Represents : ℕ → ℕ → ℕ → ℕ → Point → Type 0
Represents p x y z Infinity = z % p ≡ 0
Represents p x y z (Affine a b) =
    (a < p) × ((b < p) × ((z % p ≡ 0 → ⊥) × ((x % p ≡ (a * (z * z)) % p) × (y % p ≡ (b * (z * z * z)) % p))))

-- the limbs of each coordinate are below p
abbrev pub AreBelow : EllipticCurve → JacobianPoint → Type 0
AreBelow c j = (value c j.x < prime c) × ((value c j.y < prime c) × (value c j.z < prime c))

-- limbs stand for a point
abbrev pub StandsFor : EllipticCurve → JacobianPoint → Point → Type 0
StandsFor c j q = Represents (prime c) (held c j.x) (held c j.y) (held c j.z) q

-- the point whose coordinates limbs in Montgomery's form stand for, of which there are none for the point at infinity
abbrev pub form_point : EllipticCurve → Option AffinePoint → Point
form_point c None = Infinity
form_point c (Some q) = Affine (held c q.x) (held c q.y)

-- two points and their sum
pub record AreAddends (c : EllipticCurve) (a : Addends) : Type 0 where
  pub first : IsReduced c (Some a.first)
  pub second : IsReduced c (Some a.second)
  pub both : IsReduced c a.both
  pub sum_is : form_point c a.both ≡ sum (prime c) (form_point c (Some a.first)) (form_point c (Some a.second))

-- what is added for two bits
abbrev pub chosen : Addends → Bool → Bool → Option AffinePoint
chosen a true true = a.both
chosen a true false = Some a.first
chosen a false true = Some a.second
chosen a false false = None
