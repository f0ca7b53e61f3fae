-- The parameters of the command `introspect`.
use Rattle.std.specs.Prelude.{ℕ, List, Option, Ok, codes}
use Rattle.serde_json.specs.Data.{Data}
use Rattle.oauth2_script_values.specs.Reading.{Reading, ◌>>=◌}
use Rattle.oauth2_script_values.specs.Part.{needed_part, present_part, text}
use Rattle.oauth2_script.specs.Sent.{asserted_extra}

-- the token, its type hint and the further parameters of an introspection request (RFC 7662, 2.1)
pub record IntrospectParams : Type 0 where
  pub token : List ℕ
  pub hint : Option (List ℕ)
  pub extra_params : List (List ℕ × List ℕ)

-- reads `params`; `token` has to be present
unfoldable pub introspect_params : Data → Reading IntrospectParams
introspect_params d = do
  token ← needed_part text (codes "token") d
  hint ← present_part text (codes "hint") d
  extra_params ← asserted_extra d
  Ok (record { token = token; hint = hint; extra_params = extra_params })
