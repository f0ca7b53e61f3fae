-- The parameters of the command `keeper`.
use Rattle.std.specs.Prelude.{ℕ, List, Option, Ok, codes}
use Rattle.serde_json.specs.Data.{Data}
use Rattle.oauth2_script_values.specs.Reading.{Reading, ◌>>=◌}
use Rattle.oauth2_script_values.specs.Part.{list_of, list_part, needed_part, present_part, duration, text}
use Rattle.oauth2_script.specs.Sent.{sent_params}

-- the parameters of a new keeper; lengths of time in nanoseconds
pub record KeeperParams : Type 0 where
  -- how long before its end a token counts as expired
  pub margin : ℕ
  -- the lifetime of a token whose reply has no `expires_in`
  pub life : ℕ
  -- the refresh token that the keeper starts with
  pub refresh : Option (List ℕ)
  -- the scopes of requests with the client's own credentials
  pub scopes : List (List ℕ)
  -- the further parameters of each request
  pub extra_params : List (List ℕ × List ℕ)
  -- how long the keeper makes no request after a failed one
  pub retry_after : Option ℕ
  -- the types of tokens that the keeper hands out; any if `None`
  pub token_types : Option (List (List ℕ))

-- reads `params`; `margin` and `life` have to be present
unfoldable pub keeper_params : Data → Reading KeeperParams
keeper_params d = do
  margin ← needed_part duration (codes "margin") d
  life ← needed_part duration (codes "life") d
  refresh ← present_part text (codes "refresh") d
  scopes ← list_part text (codes "scopes") d
  extra_params ← sent_params d
  retry_after ← present_part duration (codes "retry_after") d
  token_types ← present_part (list_of text) (codes "token_types") d
  Ok (record { margin = margin; life = life; refresh = refresh; scopes = scopes; extra_params = extra_params; retry_after = retry_after; token_types = token_types })
