-- The authorization request (RFC 6749, section 4.1.1).
use Rattle.std.specs.Prelude.{ℕ, ◌^◌, ◌≤◌, List, [], ◌∷◌, ◌++◌, length, codes, Option, Some, None, option_map}
use Rattle.url.specs.Parts.{Parts, serialize}
use Rattle.url.specs.Setters.{append_query_pairs}
use Rattle.oauth2_types.specs.Pkce.{Challenge}
use Rattle.oauth2_urls.specs.Addressed.{Addressed}
use Rattle.oauth2_json.specs.Words.{joined_words}
use Rattle.oauth2_form.specs.Pairs.{Pair}
use Rattle.oauth2_wire.specs.Expected.{optional_pair}
use Rattle.oauth2_wire.specs.Texts.{given_text}

-- an authorization request and its endpoint (RFC 6749, 4.1.1)
pub record Authorization : Type 0 where
  pub auth_url : Addressed
  pub client_id : List ℕ
  pub state : List ℕ
  pub response_type : List ℕ
  pub pkce_challenge : Option Challenge
  pub redirect_url : Option Addressed
  pub scopes : List (List ℕ)
  pub extra_params : List Pair

-- the challenge and its method (RFC 7636, section 4.3)
abbrev pub challenge_pairs : Option Challenge → List Pair
challenge_pairs None = []
challenge_pairs (Some challenge) =
    (codes "code_challenge", challenge.text)
    ∷ (codes "code_challenge_method", challenge.method)
    ∷ []

-- the parameter `scope`, unless the joined text of the scopes is empty (RFC 6749, 3.3)
abbrev pub scope_pairs : List ℕ → List Pair
scope_pairs [] = []
scope_pairs (byte ∷ bytes) = (codes "scope", byte ∷ bytes) ∷ []

-- the parameters that every authorization request sends
abbrev pub required_pairs : Authorization → List Pair
required_pairs r =
    (codes "response_type", r.response_type)
    ∷ (codes "client_id", r.client_id)
    ∷ (codes "state", r.state)
    ∷ []

-- the parameters that an authorization request sends only if they were set
abbrev pub optional_pairs : Authorization → List Pair
optional_pairs r =
    challenge_pairs r.pkce_challenge
    ++ optional_pair (codes "redirect_uri") (option_map given_text r.redirect_url)
    ++ scope_pairs (joined_words r.scopes)
    ++ r.extra_params

-- all parameters of the request, in order; they follow those in the URL of the endpoint
abbrev pub query_pairs : Authorization → List Pair
query_pairs r = required_pairs r ++ optional_pairs r

-- the authorization URL: the URL of the endpoint, with these parameters appended to its query
abbrev pub asked_url : Authorization → Parts
asked_url r = append_query_pairs r.auth_url.url (query_pairs r)

-- the text of the URL has 2^32 bytes or more, which is longer than a `Url` can be
abbrev pub IsTooLong : Parts → Type 0
IsTooLong url = 2 ^ 32 ≤ length (serialize url)
