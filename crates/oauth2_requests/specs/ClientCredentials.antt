-- The exchange of the credentials of the client (RFC 6749, section 4.4.2).
use Rattle.std.specs.Prelude.{List, [], ◌∷◌, codes, None}
use Rattle.oauth2_urls.specs.Addressed.{Addressed}
use Rattle.oauth2_form.specs.Pairs.{Pair}
use Rattle.oauth2_wire.specs.Expected.{Configuration}
use Rattle.oauth2_requests.specs.Base.{Base, configuration_of}

-- a request for a token by the credentials of the client, and its endpoint (RFC 6749, 4.4.2)
pub record ClientCredentialsRequest : Type 0 where
  pub base : Base
  pub token_url : Addressed

-- the grant type (RFC 6749, 4.4.2)
abbrev pub client_credentials_pairs : List Pair
client_credentials_pairs = (codes "grant_type", codes "client_credentials") ∷ []

-- what this request sends
abbrev pub client_credentials_configuration : ClientCredentialsRequest → Configuration
client_credentials_configuration r = configuration_of r.base client_credentials_pairs None
