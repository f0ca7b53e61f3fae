-- The curves P-256, P-384 and P-521 (SP 800-186, 3.2.1.3 to 3.2.1.5) and the sum of their points (SEC 1, 2.2.1).
use Rattle.std.specs.Prelude.{◌≡◌, ℕ, zero, suc, ◌+◌, ◌-◌, ◌*◌, ◌/◌, ◌%◌, ◌^◌, nat_eq, if◌then◌else◌}
use Rattle.ecdsa_signatures.specs.declared.curve.EllipticCurve.{EllipticCurve}
use Rattle.ecdsa_signatures.specs.declared.curve.EllipticCurve.TheVariants.{P256, P384, P521}

-- p, of which the coordinates are residues: 2 ^ 256 - 2 ^ 224 + 2 ^ 192 + 2 ^ 96 - 1,
-- 2 ^ 384 - 2 ^ 128 - 2 ^ 96 + 2 ^ 32 - 1, and 2 ^ 521 - 1
unfoldable pub prime : EllipticCurve → ℕ
prime P256 = 0xffffffff00000001000000000000000000000000ffffffffffffffffffffffff
prime P384 =
    0xfffffffffffffffffffffffffffffffffffffffffffffffffffffffffffffffeffffffff0000000000000000ffffffff
prime P521 =
    0x1ffffffffffffffffffffffffffffffffffffffffffffffffffffffffffffffffffffffffffffffffffffffffffffffffffffffffffffffffffffffffffffffffff

-- n, the order of G
unfoldable pub order : EllipticCurve → ℕ
order P256 = 0xffffffff00000000ffffffffffffffffbce6faada7179e84f3b9cac2fc632551
order P384 =
    0xffffffffffffffffffffffffffffffffffffffffffffffffc7634d81f4372ddf581a0db248b0a77aecec196accc52973
order P521 =
    0x1fffffffffffffffffffffffffffffffffffffffffffffffffffffffffffffffffa51868783bf2f966b7fcc0148f709a5d03bb5c9b8899c47aebb6fb71e91386409

-- b of the equation; a is -3
unfoldable pub coefficient : EllipticCurve → ℕ
coefficient P256 = 0x5ac635d8aa3a93e7b3ebbd55769886bc651d06b0cc53b0f63bce3c3e27d2604b
coefficient P384 =
    0xb3312fa7e23ee7e4988e056be3f82d19181d9c6efe8141120314088f5013875ac656398d8a2ed19d2a85c8edd3ec2aef
coefficient P521 =
    0x51953eb9618e1c9a1f929a21a0b68540eea2da725b99b315f3b8b489918ef109e156193951ec7e937b1652c0bd3bb1bf073573df883d2c34f1ef451fd46b503f00

-- G's coordinates
unfoldable pub generator_x : EllipticCurve → ℕ
generator_x P256 = 0x6b17d1f2e12c4247f8bce6e563a440f277037d812deb33a0f4a13945d898c296
generator_x P384 =
    0xaa87ca22be8b05378eb1c71ef320ad746e1d3b628ba79b9859f741e082542a385502f25dbf55296c3a545e3872760ab7
generator_x P521 =
    0xc6858e06b70404e9cd9e3ecb662395b4429c648139053fb521f828af606b4d3dbaa14b5e77efe75928fe1dc127a2ffa8de3348b3c1856a429bf97e7e31c2e5bd66

unfoldable pub generator_y : EllipticCurve → ℕ
generator_y P256 = 0x4fe342e2fe1a7f9b8ee7eb4a7c0f9e162bce33576b315ececbb6406837bf51f5
generator_y P384 =
    0x3617de4a96262c6f5d9e98bf9292dc29f8f41dbd289a147ce9da3113b5f0b8c00a60b1ce1d7e819d7a431d7c90ea0e5f
generator_y P521 =
    0x11839296a789a3bc0045c8a5fb42c7d1bd998f54449579b446817afbd17273e662c97ee72995ef42640c550b9013fad0761353c7086a272c24088be94769fd16650

-- the octets of a coordinate (SEC 1, 2.3.5), and of n
unfoldable pub coordinate_size : EllipticCurve → ℕ
coordinate_size P256 = 32
coordinate_size P384 = 48
coordinate_size P521 = 66

-- 1 / x modulo the prime m, by Fermat's little theorem
unfoldable pub inverse : ℕ → ℕ → ℕ
inverse m x = x ^ (m - 2) % m

-- x - y modulo p, for y up to p
abbrev pub difference : ℕ → ℕ → ℕ → ℕ
difference p x y = (x + (p - y)) % p

-- x / y modulo p
abbrev pub quotient : ℕ → ℕ → ℕ → ℕ
quotient p x y = (x * inverse p y) % p

-- the equation y ^ 2 = x ^ 3 - 3 x + b modulo p
abbrev pub IsOnCurve : EllipticCurve → ℕ → ℕ → Type 0
IsOnCurve c x y = (y * y + 3 * x) % prime c ≡ (x * x * x + coefficient c) % prime c

-- the point at infinity, or the coordinates x and y
pub data Point : Type 0 where
  Infinity : Point
  Affine : ℕ → ℕ → Point

-- G
abbrev pub generator : EllipticCurve → Point
generator c = Affine (generator_x c) (generator_y c)

-- the slope of the line through two points (rule 4): (y2 - y1) / (x2 - x1)
abbrev pub chord : ℕ → ℕ → ℕ → ℕ → ℕ → ℕ
chord p x1 y1 x2 y2 = quotient p (difference p y2 y1) (difference p x2 x1)

-- the slope of the tangent at a point (rule 5): (3 x ^ 2 - 3) / 2 y
abbrev pub tangent : ℕ → ℕ → ℕ → ℕ
tangent p x y = quotient p (difference p (3 * (x * x)) 3) (2 * y % p)

-- the sum of points with these x, and y1, on a line of this slope (rules 4 and 5):
-- x3 = slope ^ 2 - x1 - x2, y3 = slope (x1 - x3) - y1
abbrev pub third_x : ℕ → ℕ → ℕ → ℕ → ℕ
third_x p slope x1 x2 = difference p (difference p (slope * slope) x1) x2

abbrev pub third_y : ℕ → ℕ → ℕ → ℕ → ℕ → ℕ
third_y p slope x1 y1 x3 = difference p (slope * difference p x1 x3) y1

abbrev pub third : ℕ → ℕ → ℕ → ℕ → ℕ → Point
third p slope x1 y1 x2 =
    Affine (third_x p slope x1 x2) (third_y p slope x1 y1 (third_x p slope x1 x2))

-- P + Q modulo p. With the point at infinity it is the other point (rules 1 and 2). Two points with
-- different x are added by the chord (rule 4), and a point to itself by the tangent (rule 5), unless its y
-- is 0 and it is its own negative. Two other points of a curve with the same x are each other's negative
-- (rule 3), since the equation gives y up to its sign. `proofs/CurvePoints` proves that, and that sums of
-- points of a curve are points of the curve.
unfoldable pub sum : ℕ → Point → Point → Point
sum p Infinity q = q
sum p (Affine x1 y1) Infinity = Affine x1 y1
sum p (Affine x1 y1) (Affine x2 y2) =
    if nat_eq x1 x2
    then (if nat_eq y1 y2 then (if nat_eq ((y1 + y2) % p) 0 then Infinity else third p (tangent p x1 y1) x1 y1 x2) else Infinity)
    else third p (chord p x1 y1 x2 y2) x1 y1 x2

-- what is left of u P + v Q above 2 ((u / 2) P + (v / 2) Q): P if u alone is odd, Q if v alone is, P + Q if
-- both are, and the point at infinity if neither is
unfoldable pub odd_part : ℕ → ℕ → ℕ → Point → Point → Point
odd_part p u v a b =
    if nat_eq (u % 2) 1
    then (if nat_eq (v % 2) 1 then sum p a b else a)
    else (if nat_eq (v % 2) 1 then b else Infinity)

-- u P + v Q for u and v of so many bits, by doubling and adding for both at once. The order of the sums is
-- that of the code, since that a sum does not depend on it is not proved here.
unfoldable pub multiples_of : ℕ → ℕ → ℕ → ℕ → Point → Point → Point
multiples_of p zero u v a b = Infinity
multiples_of p (suc bits) u v a b =
    let half = multiples_of p bits (u / 2) (v / 2) a b in
    sum p (sum p half half) (odd_part p u v a b)

-- u P + v Q, for u and v with as many bits as a coordinate (SEC 1, 2.2.1)
abbrev pub multiples : EllipticCurve → ℕ → ℕ → Point → Point → Point
multiples c u v a b = multiples_of (prime c) (8 * coordinate_size c) u v a b
