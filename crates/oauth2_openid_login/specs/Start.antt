-- The start of a login with OpenID Connect (Core 1.0, 3.1.2.1).
use Rattle.std.specs.Prelude.{◌≡◌, ℕ, List, [], ◌∷◌, codes, Option, Some, None, IsSome}
use Rattle.std.specs.Fmt.{decimal}
use Rattle.oauth2_urls.specs.Addressed.{Addressed}
use Rattle.oauth2_form.specs.Pairs.{Pair}
use Rattle.oauth2_requests.specs.Authorization.{Authorization, IsTooLong, asked_url}
use Rattle.oauth2.specs.CodeFlow.{flow_authorization}
use Rattle.oauth2.specs.Settings.{Settings}
use Rattle.oauth2_redirect.specs.declared.login_url_error.LoginUrlFault.{LoginUrlFault}
use Rattle.oauth2_redirect.specs.declared.login_url_error.LoginUrlFault.TheVariants as faults
use Rattle.oauth2_redirect.specs.Redirect.{IssuerExpectation}
use Rattle.oauth2_openid_login.specs.declared.login_url_error.OpenIdLoginUrlFault.{OpenIdLoginUrlFault}
use Rattle.oauth2_openid_login.specs.declared.login_url_error.OpenIdLoginUrlFault.TheVariants.{NoRedirectUri, TooLong, Memory}

-- a login being started: the request that its URL is made of, the verifier of its challenge, the
-- issuer that its redirect is expected to come from, the URL of its token endpoint, its nonce, and
-- the maximum age in seconds, if one was requested
pub record OpenIdStarting : Type 0 where
  pub request : Authorization
  pub verifier : List ℕ
  pub issuer : IssuerExpectation
  pub token_url : List ℕ
  pub nonce : List ℕ
  pub max_age : Option ℕ

-- the request of a login by a code, with the scope `openid` and the parameter `nonce` (3.1.2.1)
abbrev pub openid_authorization : Settings → Addressed → List ℕ → List ℕ → List ℕ → Authorization
openid_authorization client endpoint state verifier nonce =
    record (flow_authorization client endpoint state verifier) {
      scopes = codes "openid" ∷ [];
      extra_params = (codes "nonce", nonce) ∷ [];
    }

-- the parameter `max_age`, in seconds (3.1.2.1)
abbrev pub max_age_pair : ℕ → Pair
max_age_pair seconds = (codes "max_age", decimal seconds)

-- why a request has no URL: `NoRedirectUri` if it has no redirect URI (3.1.2.1), else `TooLong` if
-- the URL would be too long, and else `Memory`
abbrev pub IsUrlFault : Authorization → OpenIdLoginUrlFault → Type 0
IsUrlFault request NoRedirectUri = request.redirect_url ≡ None
IsUrlFault request TooLong = IsSome request.redirect_url × IsTooLong (asked_url request)
IsUrlFault request Memory = IsSome request.redirect_url × ¬ (IsTooLong (asked_url request))

-- the fault of a login with OpenID Connect, for that of a login by a code
abbrev pub url_fault : LoginUrlFault → OpenIdLoginUrlFault
url_fault faults.NoRedirectUri = NoRedirectUri
url_fault faults.TooLong = TooLong
url_fault faults.Memory = Memory

-- the text that `Display` writes of a fault
abbrev pub url_fault_text : OpenIdLoginUrlFault → Option (List ℕ)
url_fault_text NoRedirectUri = Some (codes "login has no redirect URI")
url_fault_text TooLong = Some (codes "authorization URL is too long")
url_fault_text Memory = Some (codes "Out of memory")
