-- What a whole body reads to: its bytes are one JSON value, which the type's reading then reads.
use Rattle.std.specs.Prelude.{ℕ, List, Option, Some, None, Err, if◌then◌else◌}
use Rattle.std.specs.Str.{is_utf8}
use Rattle.serde_json.specs.Data.{Data}
use Rattle.serde_json.specs.Read.{read}
use Rattle.oauth2_json.specs.Reading.{Reading, whole}
use Rattle.oauth2_json.specs.declared.read.ParseCause.TheVariants as cause

-- reads the JSON value of the bytes; `None`, if they are no JSON value, is `NotJson`
abbrev pub value_reading : {M : Type 0} → (Data → Reading M) → Option Data → Reading M
value_reading reading None = Err (whole cause.NotJson)
value_reading reading (Some d) = reading d

-- the bytes have to be UTF-8 and one JSON value, nested at most 127 deep, with only white space
-- after it; else the whole body is `NotJson`
abbrev pub body_reading : {M : Type 0} → (Data → Reading M) → List ℕ → Reading M
body_reading reading bytes =
    if is_utf8 bytes then value_reading reading (read bytes) else Err (whole cause.NotJson)
