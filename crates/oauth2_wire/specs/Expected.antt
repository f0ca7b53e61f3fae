-- What a request has to hold, given its configuration.
use Rattle.std.specs.Prelude.{ℕ, List, [], ◌∷◌, ◌++◌, codes, Option, Some, None, option_map}
use Rattle.http_header.specs.FieldValue.{FieldValue, plain_value}
use Rattle.http_header.specs.HeaderMap.{Entries}
use Rattle.oauth2_wire.specs.declared.request.AuthType.{AuthType}
use Rattle.oauth2_wire.specs.declared.request.AuthType.TheVariants.{RequestBody, BasicAuth}
use Rattle.oauth2_json.specs.Words.{joined_words}
use Rattle.oauth2_form.specs.Pairs.{Pair}
use Rattle.oauth2_form.specs.Basic.{basic_value}
use Rattle.oauth2_form.specs.Params.{Params}
use Rattle.oauth2_urls.specs.Addressed.{Addressed}
use Rattle.oauth2_wire.specs.Texts.{given_text}

-- what a request is built from: the client, how it authenticates, and the parameters, all as texts
pub record Configuration : Type 0 where
  pub auth_type : AuthType
  pub client_id : List ℕ
  pub client_secret : Option (List ℕ)
  pub own_pairs : List Pair
  pub scope : Option (List ℕ)
  pub redirect_uri : Option (List ℕ)
  pub extra_params : List Pair

-- the configuration with the scope and the extra parameters of a buffer, and this redirect URL
abbrev pub configuration_from : AuthType → List ℕ → Option (List ℕ) → List Pair → Params
    → Option Addressed → Configuration
configuration_from auth_type client_id client_secret own_pairs buffer redirect_url = record {
  auth_type = auth_type;
  client_id = client_id;
  client_secret = client_secret;
  own_pairs = own_pairs;
  scope = buffer.scope;
  redirect_uri = option_map given_text redirect_url;
  extra_params = buffer.extra_params;
}

-- the scopes as one text, separated by spaces; `None` if there are none (RFC 6749, 3.3)
abbrev pub joined_scope : Option (List (List ℕ)) → Option (List ℕ)
joined_scope None = None
joined_scope (Some []) = None
joined_scope (Some (first ∷ rest)) = Some (joined_words (first ∷ rest))

-- the credentials sent in the header: those of a client with a secret, under `BasicAuth` (RFC 6749,
-- 2.3.1)
abbrev pub basic_credentials : AuthType → List ℕ → Option (List ℕ) → Option Pair
basic_credentials BasicAuth id (Some secret) = Some (id, secret)
basic_credentials BasicAuth id None = None
basic_credentials RequestBody id (Some secret) = None
basic_credentials RequestBody id None = None

-- one pair if there is a value, else no pair
abbrev pub optional_pair : List ℕ → Option (List ℕ) → List Pair
optional_pair name None = []
optional_pair name (Some value) = (name, value) ∷ []

-- the credentials sent in the body, if none are sent in the header (RFC 6749, 2.3.1)
abbrev pub body_credentials : Option Pair → List ℕ → Option (List ℕ) → List Pair
body_credentials None id secret =
    (codes "client_id", id) ∷ optional_pair (codes "client_secret") secret
body_credentials (Some pair) id secret = []

-- the credentials that a server reads from the header with `basic`
abbrev pub expected_basic : Configuration → Option Pair
expected_basic c = basic_credentials c.auth_type c.client_id c.client_secret

-- the pairs before the extra parameters: the own pairs of the request, the scope, the credentials
-- in the body, and the redirect URL (RFC 6749, 4.1.3)
abbrev pub set_pairs : Configuration → List Pair
set_pairs c =
    c.own_pairs
    ++ optional_pair (codes "scope") c.scope
    ++ body_credentials (expected_basic c) c.client_id c.client_secret
    ++ optional_pair (codes "redirect_uri") c.redirect_uri

-- the pairs that a server reads from the body with `form`: these, then the extra parameters
abbrev pub expected_pairs : Configuration → List Pair
expected_pairs c = set_pairs c ++ c.extra_params

-- one header with one value
abbrev pub one_header : List ℕ → List ℕ → Entries FieldValue
one_header name value = (name, plain_value value ∷ []) ∷ []

-- the Authorization header for these credentials, or no header without credentials (RFC 7617, 2)
abbrev pub authorization_header : Option Pair → Entries FieldValue
authorization_header None = []
authorization_header (Some pair) = one_header (codes "authorization") (basic_value pair.0 pair.1)

-- the headers Accept and Content-Type, which every request has, followed by these
abbrev pub headers_before : Entries FieldValue → Entries FieldValue
headers_before authorization =
    one_header (codes "accept") (codes "application/json")
    ++ one_header (codes "content-type") (codes "application/x-www-form-urlencoded")
    ++ authorization

-- every header of the request, in order
abbrev pub expected_headers : Configuration → Entries FieldValue
expected_headers c = headers_before (authorization_header (expected_basic c))
