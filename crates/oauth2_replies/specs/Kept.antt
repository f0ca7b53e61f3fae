-- When a value that is written reads back as itself.
use Rattle.std.specs.Prelude.{◌≡◌, ℕ, List, map, Bool, true, Option, IfSome, is_some, Ok}
use Rattle.std.specs.Char.{to_ascii_lowercase}
use Rattle.serde_json.specs.Data.{Data, Members, no_members, null, boolean, number, string, array, object}
use Rattle.serde_json.specs.Find.{as_object}
use Rattle.oauth2_json.specs.Reading.{Reading, read_then}
use Rattle.oauth2_json.specs.Members.{members_of_object}
use Rattle.oauth2_json.specs.Writing.{Writing}
use Rattle.oauth2_json.specs.Words.{are_words}

-- the token type `t` is written as a string without upper-case ASCII letters that reads back as `t`
pub record IsTypeKept {T M : Type 0} (reading : Data → Reading M) (meaning : T → M) (writing : T → Writing) (t : T) : Type 0 where
  pub type_text : List ℕ
  pub written : writing t ≡ Ok (string type_text)
  pub lowered : map to_ascii_lowercase type_text ≡ type_text
  pub back : reading (string type_text) ≡ Ok (meaning t)

-- the extra fields `x` are written as an object that reads back as `x`
pub record AreFieldsKept {E F : Type 0} (reading : Data → Reading F) (meaning : E → F) (writing : E → Writing) (x : E) : Type 0 where
  pub members : Members
  pub written : writing x ≡ Ok (object members)
  pub back : reading (object members) ≡ Ok (meaning x)

-- the scopes are absent, or there is at least one and none has a space (RFC 6749, 3.3)
abbrev pub AreScopesKept : Option (List (List ℕ)) → Type 0
AreScopesKept scopes = IfSome scopes (λ list. are_words list ≡ true)

-- reads any object and keeps none of its members
abbrev pub any_object : Data → Reading (Unit {0})
any_object d = read_then (members_of_object d) (λ ms. Ok tt)

-- whether a JSON value is an object
abbrev pub is_object : Data → Bool
is_object d = is_some (as_object d)

-- the members of an object; any other JSON value has none
abbrev pub members_in : Data → Members
members_in null = no_members
members_in (boolean b) = no_members
members_in (number n) = no_members
members_in (string s) = no_members
members_in (array ds) = no_members
members_in (object ms) = ms
