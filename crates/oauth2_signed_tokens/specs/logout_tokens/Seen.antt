-- A logout token, and a verified one, as contracts see them.
use Rattle.std.specs.Prelude.{option_copied}
use Rattle.serde_json.specs.View.{view}
use Rattle.oauth2_openid.specs.Seen.{compact_token_of}
use Rattle.oauth2_openid.specs.Token.{with_others}
use Rattle.oauth2_signed_tokens.specs.declared.logout_tokens.logout_token.LogoutToken.{LogoutToken}
use Rattle.oauth2_signed_tokens.specs.declared.logout_tokens.verified.VerifiedLogoutToken.{VerifiedLogoutToken}
use Rattle.oauth2_signed_tokens.specs.declared.logout_tokens.logout_token.ClientSession.{ClientSession}
use Rattle.oauth2_signed_tokens.specs.logout_tokens.LogoutToken.{DecodedLogoutToken}
use Rattle.oauth2_signed_tokens.specs.logout_tokens.Sessions.{Session}

-- the logout token that a `LogoutToken` holds, its texts as bytes
abbrev pub logout_token_of : LogoutToken → DecodedLogoutToken
logout_token_of t = compact_token_of (λ c. with_others c.claims (view c.others)) t.token

-- the logout token that a `VerifiedLogoutToken` holds
abbrev pub verified_token_of : VerifiedLogoutToken → DecodedLogoutToken
verified_token_of v = logout_token_of v.token

-- the session that a `ClientSession` names, its texts as bytes
abbrev pub session_of : ClientSession → Session
session_of s = record {
  issuer = s.issuer.now;
  subject = s.subject.now;
  session_id = option_copied s.session_id;
}
