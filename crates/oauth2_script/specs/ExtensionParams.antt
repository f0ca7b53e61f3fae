-- The parameters of the command `extension`.
use Rattle.std.specs.Prelude.{ℕ, List, Ok, codes}
use Rattle.serde_json.specs.Data.{Data}
use Rattle.oauth2_script_values.specs.Reading.{Reading, ◌>>=◌}
use Rattle.oauth2_script_values.specs.Part.{list_part, needed_part, text}
use Rattle.oauth2_script.specs.Uri.{uri}
use Rattle.oauth2_script.specs.Sent.{sent_params}

-- the grant type, which is a URI, the scopes and the further parameters of a request (RFC 6749, 4.5)
pub record ExtensionParams : Type 0 where
  pub grant_type : List ℕ
  pub scopes : List (List ℕ)
  pub extra_params : List (List ℕ × List ℕ)

-- reads `params`; `grant_type` has to be present
unfoldable pub extension_params : Data → Reading ExtensionParams
extension_params d = do
  grant_type ← needed_part uri (codes "grant_type") d
  scopes ← list_part text (codes "scopes") d
  extra_params ← sent_params d
  Ok (record { grant_type = grant_type; scopes = scopes; extra_params = extra_params })
