-- The parameters of the command `password`.
use Rattle.std.specs.Prelude.{ℕ, List, Ok, codes}
use Rattle.serde_json.specs.Data.{Data}
use Rattle.oauth2_script_values.specs.Reading.{Reading, ◌>>=◌}
use Rattle.oauth2_script_values.specs.Part.{list_part, needed_part, text}
use Rattle.oauth2_script.specs.Sent.{sent_params}

-- the name, the password, the scopes and the further parameters of a request (RFC 6749, 4.3.2)
pub record PasswordParams : Type 0 where
  pub username : List ℕ
  pub password : List ℕ
  pub scopes : List (List ℕ)
  pub extra_params : List (List ℕ × List ℕ)

-- reads `params`; `username` and `password` have to be present
unfoldable pub password_params : Data → Reading PasswordParams
password_params d = do
  username ← needed_part text (codes "username") d
  password ← needed_part text (codes "password") d
  scopes ← list_part text (codes "scopes") d
  extra_params ← sent_params d
  Ok (record { username = username; password = password; scopes = scopes; extra_params = extra_params })
