-- The JSON value that the bytes of an input are.
use Rattle.std.specs.Prelude.{ℕ, List, None, if◌then◌else◌}
use Rattle.std.specs.Str.{is_utf8}
use Rattle.serde_json.specs.Data.{Data}
use Rattle.serde_json.specs.Read.{read}
use Rattle.oauth2_script_values.specs.Reading.{Reading, or_bad}
use Rattle.oauth2_script_values.specs.declared.script_cause.ScriptCause.TheVariants.{NotJson}

-- the JSON value of a text in UTF-8 (RFC 8259, 8.1)
unfoldable pub json_in : List ℕ → Reading Data
json_in input = or_bad NotJson (if is_utf8 input then read input else None)
