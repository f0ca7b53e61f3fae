-- The errors of an ID token, as errors of the front channel.
use Rattle.std.specs.Prelude.{Ok, Err}
use Rattle.oauth2_openid.specs.Checks.{Verdict}
use Rattle.oauth2_openid.specs.declared.claims_error.ClaimsError.{ClaimsError}
use Rattle.oauth2_openid.specs.declared.claims_error.ClaimsError.TheVariants as errors
use Rattle.oauth2_openid.specs.declared.read_error.IdTokenReadError.{IdTokenReadError}
use Rattle.oauth2_openid.specs.declared.read_error.IdTokenReadError.TheVariants as read
use Rattle.oauth2_verified_login.specs.declared.hybrid.front_token_error.FrontTokenError.{FrontTokenError}
use Rattle.oauth2_verified_login.specs.declared.hybrid.front_token_error.FrontTokenError.TheVariants.{Read, Memory}

-- the front channel's error for an ID token that could not be read
abbrev pub unread_as : IdTokenReadError → FrontTokenError
unread_as read.TooLong = Read read.TooLong
unread_as read.NotThreeParts = Read read.NotThreeParts
unread_as (read.NotBase64 part) = Read (read.NotBase64 part)
unread_as (read.Fault part fault) = Read (read.Fault part fault)
unread_as read.Memory = Memory

-- the outcome of the rules without the one for the access token, by the first broken rule
abbrev pub unless_hash : ClaimsError → Verdict ClaimsError
unless_hash errors.OtherAccessToken = Ok tt
unless_hash error = Err error
