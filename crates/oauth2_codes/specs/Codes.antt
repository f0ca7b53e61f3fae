-- Tables of codes, and token types (RFC 6749, 7.1). Texts are compared byte by byte: case matters.
use Rattle.std.specs.Prelude.{ℕ, List, [], ◌∷◌, Ok, codes, if◌then◌else◌, string_bytes}
use Rattle.std.specs.Str.{bytes_eq}
use Rattle.serde_json.specs.Data.{Data}
use Rattle.oauth2_json.specs.Reading.{Reading, read_then}
use Rattle.oauth2_json.specs.Values.{text}
use Rattle.oauth2_codes.specs.declared.token_type.BasicTokenType.{BasicTokenType}
use Rattle.oauth2_codes.specs.declared.token_type.BasicTokenType.TheVariants.{Bearer, Mac, Extension}

-- the code in the first row whose text is `s`, or `other` if no row has that text
abbrev pub code_in : {C : Type 0} → List (List ℕ × C) → C → List ℕ → C
code_in [] other s = other
code_in (r ∷ rs) other s = if bytes_eq s r.0 then r.1 else code_in rs other s

-- a token type, without its place in memory (RFC 6749, 7.1)
pub data TokenCode : Type 0 where
  bearer : TokenCode
  mac : TokenCode
  extension : List ℕ → TokenCode

-- the code of a token type; the text of an `Extension` becomes its bytes
abbrev pub token_code : BasicTokenType → TokenCode
token_code Bearer = bearer
token_code Mac = mac
token_code (Extension s) = extension (string_bytes s)

-- the token types that RFC 6749, 7.1, names, and their texts
abbrev pub token_codes : List (List ℕ × TokenCode)
token_codes = (codes "bearer", bearer) ∷ (codes "mac", mac) ∷ []

-- the code that a text names; a text outside the table is an extension
abbrev pub token_code_of : List ℕ → TokenCode
token_code_of s = code_in token_codes (extension s) s

-- the text of a code
abbrev pub token_code_text : TokenCode → List ℕ
token_code_text bearer = codes "bearer"
token_code_text mac = codes "mac"
token_code_text (extension s) = s

-- reads a JSON string as the code that it names; any other JSON value is of the wrong type
abbrev pub token_code_reading : Data → Reading TokenCode
token_code_reading d = read_then (text d) (λ s. Ok (token_code_of s))

-- the code that the text of `c` names: an extension with the text "bearer" is `bearer`
abbrev pub canonical : TokenCode → TokenCode
canonical c = token_code_of (token_code_text c)
