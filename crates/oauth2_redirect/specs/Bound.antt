-- What a login is bound to: its client, its token endpoint and its redirect URI (RFC 9700, 2.1 and
-- 4.4.2).
use Rattle.std.specs.Prelude.{◌≡◌, ℕ, List, codes, bytes_eq, Bool, false, if◌then◌else◌, IsTrue, Option, Some, None, Result, Ok, MatchResult}
use Rattle.url.specs.Parts.{Parts, serialize}
use Rattle.oauth2_urls.specs.Addressed.{Addressed}
use Rattle.oauth2_form.specs.Pairs.{Pair}
use Rattle.oauth2.specs.Settings.{Settings}
use Rattle.oauth2_redirect.specs.declared.login_refusal.LoginMismatch.{LoginMismatch}
use Rattle.oauth2_redirect.specs.declared.login_refusal.LoginMismatch.TheVariants.{OtherClient, OtherTokenEndpoint, OtherRedirectUri}
use Rattle.oauth2_redirect.specs.declared.login_refusal.LoginRefusal.{LoginRefusal}
use Rattle.oauth2_redirect.specs.declared.login_refusal.LoginRefusal.TheVariants.{Mismatch, Redirect}
use Rattle.oauth2_redirect.specs.declared.login_refusal.RefusedLogin.{RefusedLogin}
use Rattle.oauth2_redirect.specs.Login.{LoginView}
use Rattle.oauth2_redirect.specs.Place.{is_at_redirect_uri}
use Rattle.oauth2_redirect.specs.Redirect.{RedirectErrorView, ShowsRedirectError, answer, redirect_error_text}

-- the client is the login's
abbrev pub is_client_of : Settings → LoginView → Bool
is_client_of client login = bytes_eq client.client_id login.client_id

-- requests for a token go to this URL
abbrev pub is_token_url : List ℕ → Option Addressed → Bool
is_token_url url None = false
is_token_url url (Some endpoint) = bytes_eq (serialize endpoint.url) url

-- the client's token endpoint is the login's (RFC 9700, 4.4.2)
abbrev pub is_endpoint_of : Settings → LoginView → Bool
is_endpoint_of client login = is_token_url login.token_url client.token_url

-- the client and its token endpoint are the login's
abbrev pub IsLoginOf : Settings → LoginView → Type 0
IsLoginOf client login = IsTrue (is_client_of client login) × IsTrue (is_endpoint_of client login)

-- what a login is bound to besides its issuer: the client's identifier, the token endpoint and the
-- redirect URI
pub record Binding : Type 0 where
  pub client_id : List ℕ
  pub token_url : List ℕ
  pub redirect_uri : Parts

-- what is not the login's: the identifier of a client, its token endpoint, or else the URL to which
-- the redirect came
abbrev pub mismatch_of : List ℕ → Option Addressed → Binding → Parts → Option LoginMismatch
mismatch_of client_id token_url login called =
    if bytes_eq client_id login.client_id
    then (if is_token_url login.token_url token_url
    then (if is_at_redirect_uri login.redirect_uri called then None else Some OtherRedirectUri)
    else Some OtherTokenEndpoint)
    else Some OtherClient

-- what a login is bound to
abbrev pub binding_of : LoginView → Binding
binding_of login = record {
  client_id = login.client_id;
  token_url = login.token_url;
  redirect_uri = login.redirect_uri.url;
}

-- what of this client and this called URL is not the login's
abbrev pub mismatch : Settings → LoginView → Parts → Option LoginMismatch
mismatch client login called = mismatch_of client.client_id client.token_url (binding_of login) called

-- the refusal tells the mismatch that was found; or there is none, and it says why the redirect has
-- no code
abbrev pub ShowsRefusal : LoginRefusal → Option LoginMismatch → Result (List ℕ) RedirectErrorView → Type 0
ShowsRefusal (Mismatch error) found told = found ≡ Some error
ShowsRefusal (Redirect error) found told = (found ≡ None) × ShowsRedirectError error told

-- why the login is refused; it is given back as it was
abbrev pub Refuses : Settings → LoginView → Parts → List Pair → RefusedLogin → Type 0
Refuses client login called pairs refused =
    (refused.login ≡ login)
    × ShowsRefusal refused.error (mismatch client login called) (answer login.state login.issuer pairs)

-- a login with the code of its redirect
pub record Authorized : Type 0 where
  pub login : LoginView
  pub code : List ℕ

-- what a redirect with these parameters, which came to the URL `called`, makes of a login
abbrev pub Authorizes : Settings → LoginView → Parts → List Pair → Result Authorized RefusedLogin → Type 0
Authorizes client login called pairs result = MatchResult result
    (λ it. (mismatch client login called ≡ None)
    × (answer login.state login.issuer pairs ≡ Ok it.code) × (it.login ≡ login))
    (Refuses client login called pairs)

-- the text that `Display` writes of a mismatch
abbrev pub mismatch_text : LoginMismatch → Option (List ℕ)
mismatch_text OtherClient = Some (codes "login is of another client")
mismatch_text OtherTokenEndpoint = Some (codes "login is of another token endpoint")
mismatch_text OtherRedirectUri = Some (codes "redirect came to another URI")

-- the text that `Display` writes of a refusal
abbrev pub refusal_text : LoginRefusal → Option (List ℕ)
refusal_text (Mismatch error) = mismatch_text error
refusal_text (Redirect error) = redirect_error_text error
