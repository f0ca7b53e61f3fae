-- A law about the requests that get an assertion.
use Rattle.std.specs.Prelude.{◌≡◌, ℕ, List, ◌∷◌, ◌++◌, None, true, false}
use Rattle.http_uri.specs.declared.uri.Uri.{Uri}
use Rattle.http_uri.specs.Uri.{Spells}
use Rattle.oauth2_form.specs.Pairs.{form}
use Rattle.oauth2_wire.specs.Expected.{Configuration, expected_pairs}
use Rattle.oauth2_wire.specs.Request.{RequestView, IsRequestOf, basic_of}
use Rattle.oauth2_client_assertions.specs.Assertions.{assertion_pairs}
use Rattle.oauth2_client_assertions.specs.Endpoints.{is_endpoint}
use Rattle.oauth2_client_assertions.specs.Requests.{authenticates, has_credential, is_form_post, IsExtended}
use Rattle.oauth2_client_assertions.specs.declared.assertion_type.AssertionType.{AssertionType}

-- the request gets an assertion, and what a server reads of it then
pub record IsAssertedRequest (c : Configuration) (endpoints : List Uri) (kind : AssertionType) (assertion : List ℕ) (v sent : RequestView) : Type 0 where
  -- the request is one to which an assertion is added
  pub is_form_post : is_form_post v ≡ true
  pub is_for_an_endpoint : is_endpoint endpoints v.target ≡ true
  pub does_not_authenticate : authenticates v ≡ false
  -- what a server that does nothing but decode reads of the request with its assertion
  pub form : form sent.body ≡ expected_pairs c ++ assertion_pairs kind assertion
  pub basic : basic_of sent ≡ None

-- that holds for each request to one of the endpoints, by a client without a secret, none of whose
-- parameters has the name of a credential
abbrev pub EachRequestIsAsserted : Type 0
EachRequestIsAsserted =
    (c : Configuration) (text : List ℕ) (before after : List Uri) (endpoint : Uri) (v sent : RequestView) (kind : AssertionType) (assertion : List ℕ)
    → Spells text endpoint
    → IsRequestOf c text v
    → c.client_secret ≡ None
    → has_credential (c.own_pairs ++ c.extra_params) ≡ false
    → IsExtended (assertion_pairs kind assertion) v sent
    → IsAssertedRequest c (before ++ endpoint ∷ after) kind assertion v sent
