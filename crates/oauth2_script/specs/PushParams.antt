-- The parameters of the command `push`.
use Rattle.std.specs.Prelude.{ℕ, [], List, Ok}
use Rattle.serde_json.specs.Data.{Data}
use Rattle.oauth2_script.specs.AuthorizeParams.{AuthorizeParams, authorize_params}
use Rattle.oauth2_script_values.specs.Reading.{Reading, ◌>>=◌}
use Rattle.oauth2_script.specs.Sent.{asserted}

-- what is pushed: the parameters of an authorization request (RFC 9126, 2.1); and the two pairs of
-- the assertion by which the client authenticates, or none
pub record PushParams : Type 0 where
  pub authorize : AuthorizeParams
  pub asserted : List (List ℕ × List ℕ)

-- reads `params`: the members of `authorize`, and `client_assertion`
unfoldable pub push_params : Data → Reading PushParams
push_params d = do
  authorize ← authorize_params d
  pairs ← asserted d []
  Ok (record { authorize = authorize; asserted = pairs })
