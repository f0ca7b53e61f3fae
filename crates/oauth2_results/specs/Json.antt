-- JSON texts of smaller ones (RFC 8259).
use Rattle.std.specs.Prelude.{ℕ, ℤ, List, [], ◌∷◌, ◌++◌, Option, Some, None, codes}
use Rattle.std.specs.Borrow.{Bor}
use Rattle.std.specs.Fmt.{signed_decimal}
use Rattle.std.specs.List.{join_by}
use Rattle.oauth2_form.specs.Pairs.{Pair}
use Rattle.oauth2_world.specs.Quotation.{quotation}

-- a member of an object: its name, and its value as a JSON text
abbrev pub Member : Type 0
Member = List ℕ × List ℕ

-- a member that the code holds
abbrev pub member_of : Bor (List ℕ) × Bor (List ℕ) → Member
member_of m = (m.0.now, m.1.now)

-- a member as text (RFC 8259, 4)
unfoldable pub member_text : Member → List ℕ
member_text m = quotation m.0 ++ codes ":" ++ m.1

-- the object with these members, in order
unfoldable pub object_text : List Member → List ℕ
object_text members = codes "{" ++ join_by member_text (codes ",") members ++ codes "}"

-- the array with these items, each a JSON text, in order (RFC 8259, 5)
unfoldable pub list_text : List (List ℕ) → List ℕ
list_text items = codes "[" ++ join_by (λ item. item) (codes ",") items ++ codes "]"

-- a text as a JSON string, or `null`
abbrev pub optional_text : Option (List ℕ) → List ℕ
optional_text None = codes "null"
optional_text (Some text) = quotation text

-- a whole number as JSON, or `null`
abbrev pub optional_number : Option ℤ → List ℕ
optional_number None = codes "null"
optional_number (Some number) = signed_decimal number

-- a pair as an array of two strings
abbrev pub pair_json : Pair → List ℕ
pair_json pair = list_text (quotation pair.0 ∷ quotation pair.1 ∷ [])
