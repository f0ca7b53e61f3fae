-- The parameters of the command `device_authorization`.
use Rattle.std.specs.Prelude.{ℕ, List, Ok, codes}
use Rattle.serde_json.specs.Data.{Data}
use Rattle.oauth2_script_values.specs.Reading.{Reading, ◌>>=◌}
use Rattle.oauth2_script_values.specs.Part.{list_part, text}
use Rattle.oauth2_script.specs.Sent.{sent_params}

-- the scopes and the further parameters of a device authorization request (RFC 8628, 3.1)
pub record DeviceAuthorizationParams : Type 0 where
  pub scopes : List (List ℕ)
  pub extra_params : List (List ℕ × List ℕ)

-- reads `params`; an absent list is empty
unfoldable pub device_authorization_params : Data → Reading DeviceAuthorizationParams
device_authorization_params d = do
  scopes ← list_part text (codes "scopes") d
  extra_params ← sent_params d
  Ok (record { scopes = scopes; extra_params = extra_params })
