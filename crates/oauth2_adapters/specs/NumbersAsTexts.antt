-- Numbers that a server sends as JSON strings, such as `"expires_in": "3599"`.
use Rattle.std.specs.Prelude.{ℕ, List, [], ◌∷◌, Bool, true, false, ◌&&◌, nat_le, bytes_eq, Option, Some, None, if◌then◌else◌}
use Rattle.std.specs.List.{list_all, list_any}
use Rattle.json.specs.Json.{Json, null, boolean, number, string, array, object}
use Rattle.json.specs.Word.{after_number}
use Rattle.oauth2_adapters.specs.Rewriting.{Change}

-- the byte is an ASCII decimal digit
abbrev pub is_digit : ℕ → Bool
is_digit b = nat_le 48 b && nat_le b 57

-- a number was read, and nothing follows it
abbrev pub is_whole_text : Option (List ℕ) → Bool
is_whole_text None = false
is_whole_text (Some []) = true
is_whole_text (Some (b ∷ bs)) = false

-- the text is a JSON number of decimal digits only: at least one digit, and no leading zero before
-- others (RFC 8259, 6)
abbrev pub is_digits : List ℕ → Bool
is_digits text = list_all is_digit text && is_whole_text (after_number text)

-- a JSON string of digits becomes the number with these digits; any other value does not change
abbrev pub number_of_digits : Json → Option Json
number_of_digits null = None
number_of_digits (boolean b) = None
number_of_digits (number s) = None
number_of_digits (string s) = if is_digits s then Some (number s) else None
number_of_digits (array js) = None
number_of_digits (object ms) = None

-- the change of the members with these names; any other member does not change
abbrev pub number_under : List (List ℕ) → Change
number_under names name value =
    if list_any (λ n. bytes_eq n name) names then number_of_digits value else None
