-- What contracts see of every request except the authorization request.
use Rattle.std.specs.Prelude.{ℕ, List, Option, option_map}
use Rattle.oauth2_urls.specs.Addressed.{Addressed}
use Rattle.oauth2_wire.specs.declared.content_type.ReplyRule.{ReplyRule}
use Rattle.oauth2_wire.specs.declared.request.AuthType.{AuthType}
use Rattle.oauth2_form.specs.Pairs.{Pair}
use Rattle.oauth2_wire.specs.Expected.{Configuration}
use Rattle.oauth2_wire.specs.Texts.{given_text}

-- what all requests have: the client and how it authenticates, the scopes as one text (if any), the
-- extra parameters, and the rule for the Content-Type of the reply
pub record Base : Type 0 where
  pub auth_type : AuthType
  pub client_id : List ℕ
  pub client_secret : Option (List ℕ)
  pub scope : Option (List ℕ)
  pub extra_params : List Pair
  pub reply_rule : ReplyRule

-- the configuration of a request with these own pairs and this redirect URL
abbrev pub configuration_of : Base → List Pair → Option Addressed → Configuration
configuration_of base own_pairs redirect_url = record {
  auth_type = base.auth_type;
  client_id = base.client_id;
  client_secret = base.client_secret;
  own_pairs = own_pairs;
  scope = base.scope;
  redirect_uri = option_map given_text redirect_url;
  extra_params = base.extra_params;
}
