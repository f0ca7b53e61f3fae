-- The text of octets in the debug text of a key. It is on several lines if `in_lines` is true, and
-- `numeral` is the text of a number.
use Rattle.std.specs.Prelude.{ℕ, Bool, List, [], ◌∷◌, ◌++◌, codes, if◌then◌else◌}

-- the text before the first number
abbrev pub bracket : Bool → List ℕ
bracket in_lines = if in_lines then codes "[\n        " else codes "["

-- the text before each other number
abbrev pub separator : Bool → List ℕ
separator in_lines = if in_lines then codes ",\n        " else codes ", "

-- the text after the last number
abbrev pub closing : Bool → List ℕ
closing in_lines = if in_lines then codes ",\n    ]" else codes "]"

-- the numbers, the first after the text `before`, and each other after `between`
unfoldable pub numbers_text : (ℕ → List ℕ) → List ℕ → List ℕ → List ℕ → List ℕ
numbers_text numeral before between [] = []
numbers_text numeral before between (x ∷ xs) =
    before ++ numeral x ++ numbers_text numeral between between xs

-- octets as numbers in brackets, in a field of a struct
abbrev pub octets_text : Bool → (ℕ → List ℕ) → List ℕ → List ℕ
octets_text in_lines numeral octets =
    numbers_text numeral (bracket in_lines) (separator in_lines) octets ++ closing in_lines
