-- The error of reading an ID token, as an error of the login; and two refusals.
use Rattle.oauth2_redirect.specs.declared.login_refusal.LoginRefusal.TheVariants as refusals
use Rattle.oauth2_redirect.specs.declared.redirect.RedirectError.TheVariants as redirect
use Rattle.oauth2_openid.specs.declared.read_error.IdTokenReadError.{IdTokenReadError}
use Rattle.oauth2_openid.specs.declared.read_error.IdTokenReadError.TheVariants as read
use Rattle.oauth2_openid_login.specs.declared.login_error.OpenIdLoginError.{OpenIdLoginError}
use Rattle.oauth2_openid_login.specs.declared.login_error.OpenIdLoginError.TheVariants.{Read, Memory}
use Rattle.oauth2_openid_login.specs.declared.login_refusal.OpenIdLoginRefusal.{OpenIdLoginRefusal}
use Rattle.oauth2_openid_login.specs.declared.login_refusal.OpenIdLoginRefusal.TheVariants.{Login}

-- the login's error for an ID token that could not be read
abbrev pub told_as : {RE T : Type 0} → IdTokenReadError → OpenIdLoginError RE T
told_as read.TooLong = Read read.TooLong
told_as read.NotThreeParts = Read read.NotThreeParts
told_as (read.NotBase64 part) = Read (read.NotBase64 part)
told_as (read.Fault part fault) = Read (read.Fault part fault)
told_as read.Memory = Memory

-- memory ran out before the code was sent
abbrev pub memory_refusal : OpenIdLoginRefusal
memory_refusal = Login (refusals.Redirect redirect.Memory)

-- the redirect has another state
abbrev pub other_state_refusal : OpenIdLoginRefusal
other_state_refusal = Login (refusals.Redirect redirect.OtherState)
