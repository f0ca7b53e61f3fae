-- The start of a login.
use Rattle.std.specs.Prelude.{◌≡◌, ℕ, List, codes, Option, Some, None, IsSome}
use Rattle.url.specs.declared.error.ParseError.{ParseError}
use Rattle.url.specs.declared.error.ParseError.TheVariants.{Overflow}
use Rattle.oauth2_types.specs.Pkce.{sha256_challenge}
use Rattle.oauth2_form.specs.Pairs.{Pair}
use Rattle.oauth2_wire.specs.ByName.{read_by_name}
use Rattle.oauth2_requests.specs.Authorization.{Authorization, IsTooLong, asked_url}
use Rattle.oauth2_redirect.specs.declared.login_url_error.LoginUrlFault.{LoginUrlFault}
use Rattle.oauth2_redirect.specs.declared.login_url_error.LoginUrlFault.TheVariants.{NoRedirectUri, TooLong, Memory}
use Rattle.oauth2_redirect.specs.Login.{LoginView}
use Rattle.oauth2_redirect.specs.Redirect.{IssuerExpectation}

-- a login being started: the request that its URL is made of, the verifier of its challenge, the
-- issuer that is expected of its redirect, and the URL of its token endpoint
pub record Starting : Type 0 where
  pub request : Authorization
  pub verifier : List ℕ
  pub issuer : IssuerExpectation
  pub token_url : List ℕ

-- these parameters have, each exactly once, the login's state, its verifier's `S256` challenge
-- (RFC 7636, 4.3) and its redirect URI
abbrev pub ShowsLogin : LoginView → List Pair → Type 0
ShowsLogin login query =
    (read_by_name (codes "state") query ≡ Some login.state)
    × (read_by_name (codes "code_challenge") query ≡ Some (sha256_challenge login.verifier).text)
    × (read_by_name (codes "code_challenge_method") query ≡ Some (codes "S256"))
    × (read_by_name (codes "redirect_uri") query ≡ Some login.redirect_uri.text)

-- why a request has no URL: `NoRedirectUri` if it has no redirect URI, else `TooLong` if the URL
-- would be too long, and else `Memory`
abbrev pub IsUrlRefusal : Authorization → LoginUrlFault → Type 0
IsUrlRefusal request NoRedirectUri = request.redirect_url ≡ None
IsUrlRefusal request TooLong = IsSome request.redirect_url × IsTooLong (asked_url request)
IsUrlRefusal request Memory = IsSome request.redirect_url × ¬ (IsTooLong (asked_url request))

-- the fault for an error of making the URL
abbrev pub url_fault : ParseError → LoginUrlFault
url_fault Overflow = TooLong
url_fault error = Memory

-- the text that `Display` writes of a fault
abbrev pub url_fault_text : LoginUrlFault → Option (List ℕ)
url_fault_text NoRedirectUri = Some (codes "login has no redirect URI")
url_fault_text TooLong = Some (codes "authorization URL is too long")
url_fault_text Memory = Some (codes "Out of memory")
