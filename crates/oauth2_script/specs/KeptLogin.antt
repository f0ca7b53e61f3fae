-- What was kept of a login when it began.
use Rattle.std.specs.Prelude.{ℕ, List, Ok, codes}
use Rattle.serde_json.specs.Data.{Data}
use Rattle.oauth2_urls.specs.Addressed.{Addressed}
use Rattle.oauth2_script_values.specs.Reading.{Reading, ◌>>=◌}
use Rattle.oauth2_script_values.specs.Part.{needed_part, address, an_object, text}

-- the client's identifier, the token endpoint and the redirect URI of a login (RFC 9700, 2.1 and
-- 4.4.2)
pub record KeptLogin : Type 0 where
  pub client_id : List ℕ
  pub token_url : Addressed
  pub redirect_uri : Addressed

-- reads the object `login`; each member has to be present
unfoldable pub kept_login : Data → Reading KeptLogin
kept_login d = do
  d ← an_object d
  client_id ← needed_part text (codes "client_id") d
  token_url ← needed_part address (codes "token_url") d
  redirect_uri ← needed_part address (codes "redirect_uri") d
  Ok (record { client_id = client_id; token_url = token_url; redirect_uri = redirect_uri })
