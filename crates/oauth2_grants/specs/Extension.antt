-- A request to the token endpoint by a grant type that is a URI (RFC 6749, section 4.5).
use Rattle.std.specs.Prelude.{ℕ, ◌||◌, Bool, List, [], ◌∷◌, ◌++◌, bytes_eq, codes, Option, None}
use Rattle.oauth2_urls.specs.Addressed.{Addressed}
use Rattle.oauth2_form.specs.Pairs.{Pair}
use Rattle.oauth2_wire.specs.declared.content_type.ReplyRule.{ReplyRule}
use Rattle.oauth2_wire.specs.declared.request.AuthType.{AuthType}
use Rattle.oauth2_wire.specs.Expected.{Configuration}
use Rattle.oauth2_requests.specs.Base.{Base, configuration_of}

-- who asks, how it shows its secret, the rule for the replies, and where it asks
pub record TokenClientView : Type 0 where
  pub auth_type : AuthType
  pub client_id : List ℕ
  pub client_secret : Option (List ℕ)
  pub reply_rule : ReplyRule
  pub token_url : Addressed

-- the request's base has the scopes, and the parameters in the order in which they were added
pub record ExtensionRequest : Type 0 where
  pub base : Base
  pub token_url : Addressed
  pub grant_type : List ℕ

-- the parameters of an extension grant that a caller cannot add, since the request or the client
-- sends them itself (RFC 6749, sections 4.5, 3.3 and 2.3.1)
abbrev pub is_taken : List ℕ → Bool
is_taken name =
    bytes_eq name (codes "grant_type")
    || bytes_eq name (codes "scope")
    || bytes_eq name (codes "client_id")
    || bytes_eq name (codes "client_secret")

-- a request of this client with no scope and no parameter yet
abbrev pub new_extension_request : TokenClientView → List ℕ → ExtensionRequest
new_extension_request client grant_type = record {
  base = record {
    auth_type = client.auth_type;
    client_id = client.client_id;
    client_secret = client.client_secret;
    scope = None;
    extra_params = [];
    reply_rule = client.reply_rule;
  };
  token_url = client.token_url;
  grant_type = grant_type;
}

-- the request with these parameters after its own
abbrev pub with_params : ExtensionRequest → List Pair → ExtensionRequest
with_params r params = record r {
  base = record r.base { extra_params = r.base.extra_params ++ params };
}

-- the grant; the parameters of an extension follow the client's own (RFC 6749, section 4.5)
abbrev pub extension_pairs : List ℕ → List Pair
extension_pairs grant_type = (codes "grant_type", grant_type) ∷ []

-- what the request sends: the client's part, the grant type, and the parameters
abbrev pub extension_configuration : ExtensionRequest → Configuration
extension_configuration r = configuration_of r.base (extension_pairs r.grant_type) None
