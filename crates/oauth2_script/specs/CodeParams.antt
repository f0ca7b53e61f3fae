-- The parameters of the command `code`.
use Rattle.std.specs.Prelude.{ℕ, List, Option, Ok, codes}
use Rattle.serde_json.specs.Data.{Data}
use Rattle.oauth2_urls.specs.Addressed.{Addressed}
use Rattle.oauth2_script_values.specs.Reading.{Reading, ◌>>=◌}
use Rattle.oauth2_script_values.specs.Part.{needed_part, present_part, address, text, verifier}
use Rattle.oauth2_script.specs.Sent.{sent_params}

-- the code, the code verifier, the redirect URI and the further parameters of a request (RFC 6749,
-- 4.1.3; RFC 7636, 4.5)
pub record CodeParams : Type 0 where
  pub code : List ℕ
  pub verifier : Option (List ℕ)
  pub redirect : Option Addressed
  pub extra_params : List (List ℕ × List ℕ)

-- reads `params`; `code` has to be present
unfoldable pub code_params : Data → Reading CodeParams
code_params d = do
  code ← needed_part text (codes "code") d
  verifier ← present_part verifier (codes "verifier") d
  redirect ← present_part address (codes "redirect") d
  extra_params ← sent_params d
  Ok (record { code = code; verifier = verifier; redirect = redirect; extra_params = extra_params })
