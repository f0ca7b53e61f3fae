-- Why a login with OpenID Connect sends nothing.
use Rattle.std.specs.Prelude.{◌≡◌, ℕ, List, Bool, true, false, not, codes, Option, Some, None, Ok, if◌then◌else◌}
use Rattle.url.specs.Parts.{Parts}
use Rattle.oauth2_urls.specs.Addressed.{Addressed}
use Rattle.oauth2_form.specs.Pairs.{Pair}
use Rattle.oauth2.specs.Settings.{Settings}
use Rattle.oauth2_metadata.specs.Issuer.{is_secure}
use Rattle.oauth2_redirect.specs.Bound.{ShowsRefusal, mismatch, refusal_text}
use Rattle.oauth2_redirect.specs.Redirect.{answer}
use Rattle.oauth2_openid_login.specs.declared.login_refusal.OpenIdLoginRefusal.{OpenIdLoginRefusal}
use Rattle.oauth2_openid_login.specs.declared.login_refusal.OpenIdLoginRefusal.TheVariants.{InsecureTokenEndpoint, OtherProvider, Login}
use Rattle.oauth2_openid_login.specs.Login.{OpenIdKept}
use Rattle.oauth2_openid_login.specs.Provider.{Provider, names_issuer}

-- the token endpoint is `https`, or `http` with a loopback host
abbrev pub is_secure_endpoint : Option Addressed → Bool
is_secure_endpoint None = false
is_secure_endpoint (Some endpoint) = is_secure endpoint.url

-- why nothing is sent whatever the redirect is: an ID token is not known to be the provider's where
-- the token endpoint has no TLS (OpenID Connect Core 1.0, 3.1.3.7, 6), nor where the login is
-- another provider's
abbrev pub provider_refusal : Settings → OpenIdKept → Provider → Option OpenIdLoginRefusal
provider_refusal client login provider =
    if not (is_secure_endpoint client.token_url) then Some InsecureTokenEndpoint
    else (if not (names_issuer login.login.issuer provider.issuer) then Some OtherProvider
    else None)

-- a redirect to this URL with these parameters has this code of the login, which this client began
-- at this provider
pub record AuthorizesOpenIdLogin (client : Settings) (login : OpenIdKept) (provider : Provider)
    (called : Parts) (pairs : List Pair) (code : List ℕ) : Type 0 where
  -- the token endpoint is secure, and the login is the provider's
  pub at_provider : provider_refusal client login provider ≡ None
  -- the login is this client's, and the redirect is at its redirect URI
  pub at_place : mismatch client login.login called ≡ None
  -- the redirect has the code, for the login's state, from the issuer that the login keeps
  pub has_code : answer login.login.state login.login.issuer pairs ≡ Ok code

-- the error says why nothing is sent for a redirect to this URL with these parameters
abbrev pub ShowsOpenIdRefusal : Settings → OpenIdKept → Provider → Parts → List Pair
    → OpenIdLoginRefusal → Type 0
ShowsOpenIdRefusal client login provider called pairs InsecureTokenEndpoint =
    provider_refusal client login provider ≡ Some InsecureTokenEndpoint
ShowsOpenIdRefusal client login provider called pairs OtherProvider =
    provider_refusal client login provider ≡ Some OtherProvider
ShowsOpenIdRefusal client login provider called pairs (Login refusal) =
    (provider_refusal client login provider ≡ None)
    × ShowsRefusal refusal (mismatch client login.login called)
    (answer login.login.state login.login.issuer pairs)

-- the text that `Display` writes of a refusal
abbrev pub openid_refusal_text : OpenIdLoginRefusal → Option (List ℕ)
openid_refusal_text InsecureTokenEndpoint = Some (codes "token endpoint is not an https URL")
openid_refusal_text OtherProvider = Some (codes "login is of another provider")
openid_refusal_text (Login refusal) = refusal_text refusal
