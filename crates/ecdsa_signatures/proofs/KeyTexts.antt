-- The octets of a coordinate, in the debug text of a key.
use Rattle.std.proofs.Common.{◌≡◌, ℕ, ◌<◌, List, length, lit<}
use Rattle.ecdsa_signatures.specs.Curve.{coordinate_size}
use Rattle.ecdsa_signatures.specs.declared.curve.EllipticCurve.{EllipticCurve}
use Rattle.ecdsa_signatures.specs.declared.curve.EllipticCurve.TheVariants.{P256, P384, P521}

pub some_octets : (c : EllipticCurve) (xs : List ℕ) → length xs ≡ coordinate_size c → 0 < length xs
unfolding coordinate_size
some_octets P256 xs e = rw e (lit< tt)
some_octets P384 xs e = rw e (lit< tt)
some_octets P521 xs e = rw e (lit< tt)
