-- The parameters of the command `client_credentials`.
use Rattle.std.specs.Prelude.{ℕ, List, Ok, codes}
use Rattle.serde_json.specs.Data.{Data}
use Rattle.oauth2_script_values.specs.Reading.{Reading, ◌>>=◌}
use Rattle.oauth2_script_values.specs.Part.{list_part, text}
use Rattle.oauth2_script.specs.Sent.{sent_params}

-- the scopes and the further parameters of a request (RFC 6749, 4.4.2)
pub record ClientCredentialsParams : Type 0 where
  pub scopes : List (List ℕ)
  pub extra_params : List (List ℕ × List ℕ)

-- reads `params`; an absent list is empty
unfoldable pub client_credentials_params : Data → Reading ClientCredentialsParams
client_credentials_params d = do
  scopes ← list_part text (codes "scopes") d
  extra_params ← sent_params d
  Ok (record { scopes = scopes; extra_params = extra_params })
