-- A JWT access token, and a verified one, as contracts see them.
use Rattle.oauth2_openid.specs.Seen.{token_of}
use Rattle.oauth2_signed_tokens.specs.declared.access_tokens.access_token.JwtAccessToken.{JwtAccessToken}
use Rattle.oauth2_signed_tokens.specs.declared.access_tokens.verified.VerifiedAccessToken.{VerifiedAccessToken}
use Rattle.oauth2_signed_tokens.specs.access_tokens.AccessToken.{AccessToken, access_token}

-- the access token that a `JwtAccessToken` holds, its texts as bytes
abbrev pub access_token_of : JwtAccessToken → AccessToken
access_token_of t = access_token (token_of t.token) t.own

-- the access token that a `VerifiedAccessToken` holds
abbrev pub verified_token_of : VerifiedAccessToken → AccessToken
verified_token_of v = access_token_of v.token
