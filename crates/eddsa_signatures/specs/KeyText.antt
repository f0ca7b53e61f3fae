-- The debug text of a key: on one line for `{:?}`, and on several for `{:#?}`, for which `in_lines` is
-- true. `numeral` is the text of a number.
use Rattle.std.specs.Prelude.{ℕ, Bool, List, ◌++◌, codes, if◌then◌else◌}
use Rattle.modular_arithmetic.specs.DebugText.{octets_text}
use Rattle.eddsa_signatures.specs.PublicKey.{PublicKey}

-- the text before the octets
abbrev pub opening : Bool → List ℕ
opening in_lines =
    if in_lines then codes "EddsaPublicKey {\n    octets: " else codes "EddsaPublicKey { octets: "

-- the text after the octets
abbrev pub closing : Bool → List ℕ
closing in_lines = if in_lines then codes ",\n}" else codes " }"

-- the 32 octets of the key, and nothing else
abbrev pub key_text : Bool → (ℕ → List ℕ) → PublicKey → List ℕ
key_text in_lines numeral key =
    opening in_lines ++ octets_text in_lines numeral key.octets ++ closing in_lines
