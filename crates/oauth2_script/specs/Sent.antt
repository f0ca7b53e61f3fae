-- The pairs that a request sends after those of its command.
use Rattle.std.specs.Prelude.{ℕ, ◌++◌, [], List, map, Option, Some, None, Ok, codes}
use Rattle.serde_json.specs.Data.{Data}
use Rattle.oauth2_form.specs.Pairs.{Pair}
use Rattle.oauth2_client_assertions.specs.Assertions.{assertion_pairs}
use Rattle.oauth2_client_assertions.specs.declared.assertion_type.AssertionType.TheVariants.{JwtBearer}
use Rattle.oauth2_script_values.specs.Reading.{Reading, ◌>>=◌}
use Rattle.oauth2_script_values.specs.Part.{list_part, present_part, pair_part, text}
use Rattle.oauth2_script.specs.Uri.{uri}

-- one pair for each resource that a token is for (RFC 8707, 2)
abbrev pub resource_pairs : List (List ℕ) → List Pair
resource_pairs uris = map (λ uri. (codes "resource", uri)) uris

-- the two pairs of the JWT by which the client authenticates, if it has one (RFC 7521, 4.2; RFC
-- 7523, 2.2)
abbrev pub client_assertion_pairs : Option (List ℕ) → List Pair
client_assertion_pairs None = []
client_assertion_pairs (Some jwt) = assertion_pairs JwtBearer jwt

-- these pairs, and then those of the member `client_assertion`
unfoldable pub asserted : Data → List Pair → Reading (List Pair)
asserted d pairs = do
  jwt ← present_part text (codes "client_assertion") d
  Ok (pairs ++ client_assertion_pairs jwt)

-- the members `resource` and `extra` of a request for an authorization
unfoldable pub resources_and_extra : Data → Reading (List Pair)
resources_and_extra d = do
  resources ← list_part uri (codes "resource") d
  extra ← list_part pair_part (codes "extra") d
  Ok (resource_pairs resources ++ extra)

-- the members `extra` and `client_assertion` of a request that is for no resource
unfoldable pub asserted_extra : Data → Reading (List Pair)
asserted_extra d = list_part pair_part (codes "extra") d >>= asserted d

-- the members `resource`, `extra` and `client_assertion` of a request for a token
unfoldable pub sent_params : Data → Reading (List Pair)
sent_params d = resources_and_extra d >>= asserted d
