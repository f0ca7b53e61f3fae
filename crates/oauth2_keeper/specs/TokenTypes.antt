-- The types of tokens that a caller can use.
use Rattle.std.specs.Prelude.{ℕ, Bool, true, false, ◌||◌, bytes_eq, List, [], ◌∷◌, map, Option, Some, None, Ok, codes}
use Rattle.std.specs.Char.{to_ascii_lowercase}
use Rattle.serde_json.specs.Data.{string}
use Rattle.oauth2_json.specs.Writing.{Writing}

-- the token type has this name, in any case (RFC 6749, 5.1)
abbrev pub is_named : List ℕ → List ℕ → Bool
is_named found name = bytes_eq (map to_ascii_lowercase found) (map to_ascii_lowercase name)

-- it has one of these names (RFC 6749, 7.1)
abbrev pub is_one_of : List (List ℕ) → List ℕ → Bool
is_one_of [] found = false
is_one_of (name ∷ names) found = is_named found name || is_one_of names found

-- the types of a caller that can use bearer tokens alone (RFC 6750)
abbrev pub bearer : List (List ℕ)
bearer = codes "Bearer" ∷ []

-- a caller that can use these types can use a token of this one; `None` is any type
abbrev pub is_understood : Option (List (List ℕ)) → List ℕ → Bool
is_understood None found = true
is_understood (Some names) found = is_one_of names found

-- the text of a token type, by what it is written as: that of a JSON string, and else none
abbrev pub type_text : Writing → List ℕ
type_text (Ok (string text)) = text
type_text written = []

-- the text of the token type in a reply, by what a token type is written as
abbrev pub type_in : {D K : Type 0} → (K → Writing) → (D → K) → D → List ℕ
type_in writing token_type reply = type_text (writing (token_type reply))
