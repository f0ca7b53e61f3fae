-- Token types that are colors: `green` and `red`.
use Rattle.std.specs.Prelude.{ℕ, List, [], ◌∷◌, Ok, Err, codes}
use Rattle.serde_json.specs.Data.{Data, string}
use Rattle.oauth2_json.specs.Reading.{Reading, whole, read_then}
use Rattle.oauth2_json.specs.Writing.{Writing}
use Rattle.oauth2_json.specs.Values.{text}
use Rattle.oauth2_json.specs.declared.read.ParseCause.TheVariants as cause
use Rattle.oauth2_codes.specs.Codes.{code_in}
use Rattle.oauth2_callers.specs.declared.own_types.colorful_token_type.ColorfulTokenType.{ColorfulTokenType}
use Rattle.oauth2_callers.specs.declared.own_types.colorful_token_type.ColorfulTokenType.TheVariants.{Green, Red}

-- the text of a token type in JSON
abbrev pub color_text : ColorfulTokenType → List ℕ
color_text Green = codes "green"
color_text Red = codes "red"

-- a text read as a token type; any other text is refused
abbrev pub color_of : List ℕ → Reading ColorfulTokenType
color_of s =
    code_in ((codes "green", Ok Green) ∷ (codes "red", Ok Red) ∷ []) (Err (whole cause.Refused)) s

-- a JSON value read as a token type; it has to be a text
abbrev pub color_reading : Data → Reading ColorfulTokenType
color_reading d = read_then (text d) color_of

-- a token type written as JSON: its text
abbrev pub color_writing : ColorfulTokenType → Writing
color_writing color = Ok (string (color_text color))
