-- The error codes of a server whose tokens have colors.
use Rattle.std.specs.Prelude.{ℕ, List, [], ◌∷◌, Ok, Err, codes}
use Rattle.serde_json.specs.Data.{Data, string}
use Rattle.oauth2_json.specs.Reading.{Reading, whole, read_then}
use Rattle.oauth2_json.specs.Writing.{Writing}
use Rattle.oauth2_json.specs.Values.{text}
use Rattle.oauth2_json.specs.declared.read.ParseCause.TheVariants as cause
use Rattle.oauth2_codes.specs.Codes.{code_in}
use Rattle.oauth2_callers.specs.declared.own_types.colorful_error.ColorfulErrorResponseType.{ColorfulErrorResponseType}
use Rattle.oauth2_callers.specs.declared.own_types.colorful_error.ColorfulErrorResponseType.TheVariants.{TooDark, TooLight, WrongColorSpace}

-- the text of an error code in JSON
abbrev pub color_error_text : ColorfulErrorResponseType → List ℕ
color_error_text TooDark = codes "too_dark"
color_error_text TooLight = codes "too_light"
color_error_text WrongColorSpace = codes "wrong_color_space"

-- a text read as an error code; any other text is refused
abbrev pub error_of : List ℕ → Reading ColorfulErrorResponseType
error_of s =
    code_in
    ((codes "too_dark", Ok TooDark) ∷ (codes "too_light", Ok TooLight) ∷ (codes "wrong_color_space", Ok WrongColorSpace) ∷ [])
    (Err (whole cause.Refused))
    s

-- a JSON value read as an error code; it has to be a text
abbrev pub color_error_reading : Data → Reading ColorfulErrorResponseType
color_error_reading d = read_then (text d) error_of

-- an error code written as JSON: its text
abbrev pub color_error_writing : ColorfulErrorResponseType → Writing
color_error_writing error = Ok (string (color_error_text error))
