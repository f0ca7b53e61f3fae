-- The debug text of a key: on one line for `{:?}`, and on several for `{:#?}`, for which `in_lines` is
-- true. `numeral` is the text of a number.
use Rattle.std.specs.Prelude.{ℕ, Bool, List, ◌++◌, codes, if◌then◌else◌}
use Rattle.std.specs.Int.{bytes_high_first}
use Rattle.modular_arithmetic.specs.DebugText.{octets_text}
use Rattle.ecdsa_signatures.specs.Curve.{coordinate_size}
use Rattle.ecdsa_signatures.specs.PublicKey.{PublicKey}
use Rattle.ecdsa_signatures.specs.declared.curve.EllipticCurve.{EllipticCurve}
use Rattle.ecdsa_signatures.specs.declared.curve.EllipticCurve.TheVariants.{P256, P384, P521}

abbrev pub curve_name : EllipticCurve → List ℕ
curve_name P256 = codes "P256"
curve_name P384 = codes "P384"
curve_name P521 = codes "P521"

-- the text before the curve
abbrev pub opening : Bool → List ℕ
opening in_lines =
    if in_lines then codes "EcdsaPublicKey {\n    curve: " else codes "EcdsaPublicKey { curve: "

-- the texts before the coordinates, and after them
abbrev pub x_label : Bool → List ℕ
x_label in_lines = if in_lines then codes ",\n    x: " else codes ", x: "

abbrev pub y_label : Bool → List ℕ
y_label in_lines = if in_lines then codes ",\n    y: " else codes ", y: "

abbrev pub closing : Bool → List ℕ
closing in_lines = if in_lines then codes ",\n}" else codes " }"

-- the text up to the curve
abbrev pub curve_text : Bool → EllipticCurve → List ℕ
curve_text in_lines c = opening in_lines ++ curve_name c

-- the octets of a coordinate, the highest first (SEC 1, 2.3.5)
abbrev pub coordinate_text : Bool → (ℕ → List ℕ) → EllipticCurve → ℕ → List ℕ
coordinate_text in_lines numeral c x =
    octets_text in_lines numeral (bytes_high_first (coordinate_size c) x)

-- the curve and the coordinates of the key, and nothing else
abbrev pub key_text : Bool → (ℕ → List ℕ) → PublicKey → List ℕ
key_text in_lines numeral key =
    curve_text in_lines key.curve
    ++ (x_label in_lines ++ coordinate_text in_lines numeral key.curve key.x)
    ++ (y_label in_lines ++ coordinate_text in_lines numeral key.curve key.y)
    ++ closing in_lines
