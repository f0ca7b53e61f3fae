-- The parameters of the command `authorize`.
use Rattle.std.specs.Prelude.{ℕ, List, Option, Ok, codes}
use Rattle.serde_json.specs.Data.{Data}
use Rattle.oauth2_types.specs.Pkce.{Challenge}
use Rattle.oauth2_urls.specs.Addressed.{Addressed}
use Rattle.oauth2_script_values.specs.Reading.{Reading, ◌>>=◌}
use Rattle.oauth2_script_values.specs.Part.{list_part, needed_part, present_part, address, challenge_part, text}
use Rattle.oauth2_script.specs.Sent.{resources_and_extra}

-- the parameters of an authorization URL (RFC 6749, 4.1.1; RFC 7636, 4.3); the nonce is that of
-- OpenID Connect Core 1.0, 3.1.2.1
pub record AuthorizeParams : Type 0 where
  pub state : List ℕ
  pub challenge : Option Challenge
  pub redirect : Option Addressed
  pub response_type : Option (List ℕ)
  pub nonce : Option (List ℕ)
  pub scopes : List (List ℕ)
  pub extra_params : List (List ℕ × List ℕ)

-- reads `params`; the member `verifier` becomes its S256 challenge (RFC 7636, 4.2)
unfoldable pub authorize_params : Data → Reading AuthorizeParams
authorize_params d = do
  state ← needed_part text (codes "state") d
  scopes ← list_part text (codes "scopes") d
  extra_params ← resources_and_extra d
  challenge ← present_part challenge_part (codes "verifier") d
  redirect ← present_part address (codes "redirect") d
  response_type ← present_part text (codes "response_type") d
  nonce ← present_part text (codes "nonce") d
  Ok (record {
    state = state;
    challenge = challenge;
    redirect = redirect;
    response_type = response_type;
    nonce = nonce;
    scopes = scopes;
    extra_params = extra_params;
  })
