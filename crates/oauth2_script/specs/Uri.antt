-- A text that is an absolute URI.
use Rattle.std.specs.Prelude.{ℕ, List, Ok, if◌then◌else◌}
use Rattle.serde_json.specs.Data.{Data}
use Rattle.oauth2_resource_indicators.specs.AbsoluteUri.{is_absolute_uri}
use Rattle.oauth2_script_values.specs.Reading.{Reading, ◌>>=◌, bad}
use Rattle.oauth2_script_values.specs.Part.{text}
use Rattle.oauth2_script_values.specs.declared.script_cause.ScriptCause.TheVariants.{BadUrl}

-- a text that is an absolute URI without a fragment (RFC 3986, 4.3)
abbrev pub uri_of : List ℕ → Reading (List ℕ)
uri_of t = if is_absolute_uri t then Ok t else bad BadUrl

-- an absolute URI without a fragment, as a resource has to be (RFC 8707, 2)
abbrev pub uri : Data → Reading (List ℕ)
uri d = text d >>= uri_of
