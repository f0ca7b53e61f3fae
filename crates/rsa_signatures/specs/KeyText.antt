-- The debug text of a key: on one line for `{:?}`, and on several for `{:#?}`, for which `in_lines` is
-- true. `numeral` is the text of a number.
use Rattle.std.specs.Prelude.{ℕ, Bool, List, ◌++◌, codes, if◌then◌else◌}
use Rattle.std.specs.Int.Digits.{digits_of}
use Rattle.modular_arithmetic.specs.DebugText.{octets_text}
use Rattle.rsa_signatures.specs.PublicKey.{PublicKey}

-- the texts before the modulus, before the exponent, and after it
abbrev pub opening : Bool → List ℕ
opening in_lines =
    if in_lines then codes "RsaPublicKey {\n    modulus: " else codes "RsaPublicKey { modulus: "

abbrev pub exponent_label : Bool → List ℕ
exponent_label in_lines = if in_lines then codes ",\n    exponent: " else codes ", exponent: "

abbrev pub closing : Bool → List ℕ
closing in_lines = if in_lines then codes ",\n}" else codes " }"

-- the text up to the octets of the modulus: its digits in base 256, the highest first
abbrev pub modulus_text : Bool → (ℕ → List ℕ) → ℕ → List ℕ
modulus_text in_lines numeral n =
    opening in_lines ++ octets_text in_lines numeral (digits_of 256 n)

-- the modulus and the exponent of the key, and nothing else
abbrev pub key_text : Bool → (ℕ → List ℕ) → PublicKey → List ℕ
key_text in_lines numeral key =
    modulus_text in_lines numeral key.modulus
    ++ exponent_label in_lines ++ numeral key.exponent
    ++ closing in_lines
