-- The curves of keys, by their names (RFC 7518, 6.2.1.1).
use Rattle.std.specs.Prelude.{ℕ, List, codes, bytes_eq, if◌then◌else◌, Option, Some, None}
use Rattle.ecdsa_signatures.specs.declared.curve.EllipticCurve.{EllipticCurve}
use Rattle.ecdsa_signatures.specs.declared.curve.EllipticCurve.TheVariants.{P256, P384, P521}

-- the name of a curve, as `crv` has it
abbrev pub curve_name : EllipticCurve → List ℕ
curve_name P256 = codes "P-256"
curve_name P384 = codes "P-384"
curve_name P521 = codes "P-521"

-- the curve with this name; `None` for other names
abbrev pub curve_named : List ℕ → Option EllipticCurve
curve_named name =
    if bytes_eq name (codes "P-256") then Some P256
    else (if bytes_eq name (codes "P-384") then Some P384
    else (if bytes_eq name (codes "P-521") then Some P521
    else None))
