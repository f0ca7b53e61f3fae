-- The parameters of the command `refresh`.
use Rattle.std.specs.Prelude.{ℕ, List, Ok, codes}
use Rattle.serde_json.specs.Data.{Data}
use Rattle.oauth2_script_values.specs.Reading.{Reading, ◌>>=◌}
use Rattle.oauth2_script_values.specs.Part.{list_part, needed_part, text}
use Rattle.oauth2_script.specs.Sent.{sent_params}

-- the refresh token, the scopes and the further parameters of a request (RFC 6749, 6)
pub record RefreshParams : Type 0 where
  pub refresh_token : List ℕ
  pub scopes : List (List ℕ)
  pub extra_params : List (List ℕ × List ℕ)

-- reads `params`; `refresh_token` has to be present
unfoldable pub refresh_params : Data → Reading RefreshParams
refresh_params d = do
  refresh_token ← needed_part text (codes "refresh_token") d
  scopes ← list_part text (codes "scopes") d
  extra_params ← sent_params d
  Ok (record { refresh_token = refresh_token; scopes = scopes; extra_params = extra_params })
