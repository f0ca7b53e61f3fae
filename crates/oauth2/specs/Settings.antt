-- What contracts see of a client.
use Rattle.std.specs.Prelude.{ℕ, List, Option}
use Rattle.oauth2_urls.specs.Addressed.{Addressed}
use Rattle.oauth2_wire.specs.declared.content_type.ReplyRule.{ReplyRule}
use Rattle.oauth2_wire.specs.declared.request.AuthType.{AuthType}

-- the identifier and the secret of the client, how it sends them (RFC 6749, 2.3.1), the rule for
-- the Content-Type of its replies, its redirect URL (RFC 6749, 3.1.2) and its endpoints (RFC 6749,
-- 3; RFC 8628; RFC 7662; RFC 7009)
pub record Settings : Type 0 where
  pub client_id : List ℕ
  pub client_secret : Option (List ℕ)
  pub auth_type : AuthType
  pub reply_rule : ReplyRule
  pub redirect_url : Option Addressed
  pub auth_url : Option Addressed
  pub device_authorization_url : Option Addressed
  pub introspection_url : Option Addressed
  pub revocation_url : Option Addressed
  pub token_url : Option Addressed
