-- The parameters of the command `access_token`.
use Rattle.std.specs.Prelude.{ℕ, List, Option, Ok, unwrap_or, codes}
use Rattle.serde_json.specs.Data.{Data}
use Rattle.oauth2_script_values.specs.Reading.{Reading, ◌>>=◌}
use Rattle.oauth2_script_values.specs.Part.{needed_part, present_part, any_value, duration, text}

-- the parameters of the check of a JWT access token at a resource server (RFC 9068, 4); the leeway
-- in nanoseconds
pub record AccessTokenParams : Type 0 where
  -- the text of the access token
  pub access_token : List ℕ
  -- the issuer that is expected
  pub issuer : List ℕ
  -- the resource server, as the issuer names it
  pub audience : List ℕ
  -- the issuer's key set, as JSON (RFC 7517, 5)
  pub keys : Data
  -- the algorithm with which the issuer signs its access tokens
  pub algorithm : Option (List ℕ)
  -- how far the clocks may be apart
  pub leeway : ℕ

-- reads `params`; `leeway` is 0 if absent
unfoldable pub access_token_params : Data → Reading AccessTokenParams
access_token_params d = do
  access_token ← needed_part text (codes "access_token") d
  issuer ← needed_part text (codes "issuer") d
  audience ← needed_part text (codes "audience") d
  keys ← needed_part any_value (codes "keys") d
  algorithm ← present_part text (codes "algorithm") d
  leeway ← present_part duration (codes "leeway") d
  Ok (record {
    access_token = access_token;
    issuer = issuer;
    audience = audience;
    keys = keys;
    algorithm = algorithm;
    leeway = unwrap_or leeway 0;
  })
