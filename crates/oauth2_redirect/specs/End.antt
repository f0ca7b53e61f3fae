-- The end of a login.
use Rattle.std.specs.Prelude.{◌≡◌, ℕ, ◌⊎◌, List, codes, Option, Some, None, Result, Ok, Err, IfOk, false}
use Rattle.serde_json.specs.Data.{Data}
use Rattle.url.specs.Parts.{Parts, serialize}
use Rattle.oauth2_json.specs.Reading.{Reading}
use Rattle.oauth2_urls.specs.Addressed.{Addressed}
use Rattle.oauth2_form.specs.Pairs.{Pair}
use Rattle.oauth2_wire.specs.ByName.{read_by_name}
use Rattle.oauth2_wire.specs.Once.{AsksOnce}
use Rattle.oauth2_wire.specs.Request.{HttpRequest, IsRequestOf}
use Rattle.oauth2_wire.specs.Reply.{HttpResponse, answer_of}
use Rattle.oauth2_wire.specs.declared.error.RequestTokenError.{RequestTokenError}
use Rattle.oauth2_wire.specs.Display.{fault_text}
use Rattle.oauth2_requests.specs.Code.{CodeRequest, code_configuration}
use Rattle.oauth2.specs.CodeFlow.{flow_exchange}
use Rattle.oauth2.specs.Settings.{Settings}
use Rattle.oauth2_redirect.specs.declared.redirect.RedirectError.TheVariants.{OtherState, Memory}
use Rattle.oauth2_redirect.specs.declared.login_error.LoginError.{LoginError}
use Rattle.oauth2_redirect.specs.declared.login_error.LoginError.TheVariants.{Refused, Token}
use Rattle.oauth2_redirect.specs.declared.login_refusal.LoginMismatch.{LoginMismatch}
use Rattle.oauth2_redirect.specs.declared.login_refusal.LoginRefusal.{LoginRefusal}
use Rattle.oauth2_redirect.specs.declared.login_refusal.LoginRefusal.TheVariants.{Mismatch, Redirect}
use Rattle.oauth2_redirect.specs.declared.login_refusal.RefusedLogin.{RefusedLogin}
use Rattle.oauth2_redirect.specs.Login.{LoginView}
use Rattle.oauth2_redirect.specs.Bound.{Refuses, mismatch, refusal_text}
use Rattle.oauth2_redirect.specs.Query.{sole_text}
use Rattle.oauth2_redirect.specs.Redirect.{MayWantMemory, RedirectErrorView, answer, is_state}

-- the text that `Display` writes of an error, where `text` is that of the server's error
abbrev pub login_error_text : {RE T : Type 0} → (T → Option (List ℕ)) → LoginError RE T
    → Option (List ℕ)
login_error_text text (Refused refused) = refusal_text refused.error
login_error_text text (Token error) = fault_text text error

-- the debug text of an error, which hides what it holds
abbrev pub login_error_debug : {RE T : Type 0} → LoginError RE T → List ℕ
login_error_debug (Refused refused) = codes "Refused([redacted])"
login_error_debug (Token error) = codes "Token([redacted])"

-- the token request for a login's code: with the login's verifier (RFC 7636, 4.5), and with the
-- redirect URI of the login's URL (RFC 6749, 4.1.3)
abbrev pub login_exchange : Settings → Addressed → LoginView → List ℕ → CodeRequest
login_exchange client endpoint login code =
    record (flow_exchange client endpoint login.verifier code) { redirect_url = Some login.redirect_uri }

-- the query of the login's URL and the body of the token request each have exactly one parameter
-- `redirect_uri`, and both have this value (RFC 6749, 4.1.3)
abbrev pub RepeatsRedirectUri : List ℕ → List Pair → List Pair → Type 0
RepeatsRedirectUri uri query body =
    (read_by_name (codes "redirect_uri") query ≡ Some uri)
    × (read_by_name (codes "redirect_uri") body ≡ Some uri)

-- the login is refused, and given back
abbrev pub refused_by : {RE T : Type 0} → LoginRefusal → LoginView → LoginError RE T
refused_by error login = Refused (record { error = error; login = login })

module _ {D T RE : Type 0} where
  -- the result of a login, from the result of its token request
  abbrev pub of_exchange : Result D (RequestTokenError RE T) → Result D (LoginError RE T)
  of_exchange (Ok token) = Ok token
  of_exchange (Err error) = Err (Token error)

module _ {D A T E RE C : Type 0} where
  -- the client sends at most one token request for this login's code, to its token endpoint, and
  -- `result` is what comes of it
  abbrev pub ExchangesCode : (D → A) → (T → E) → (Data → Reading A) → (Data → Reading E)
      → (C → HttpRequest → Result HttpResponse RE → C → Type 0) → Settings → LoginView → List ℕ
      → C → Result D (RequestTokenError RE T) → C → Type 0
  ExchangesCode meaning error_meaning reading error_reading step client login code before result after =
      (endpoint : Addressed) × (client.token_url ≡ Some endpoint)
      × AsksOnce meaning error_meaning step (answer_of client.reply_rule reading error_reading)
      (IsRequestOf (code_configuration (login_exchange client endpoint login code)))
      (serialize endpoint.url) before result after

  -- the login ends with what comes of that request
  abbrev pub EndsExchange : (D → A) → (T → E) → (Data → Reading A) → (Data → Reading E)
      → (C → HttpRequest → Result HttpResponse RE → C → Type 0) → Settings → LoginView → List ℕ
      → C → Result D (LoginError RE T) → C → Type 0
  EndsExchange meaning error_meaning reading error_reading step client login code before result after =
      (outcome : Result D (RequestTokenError RE T)) × (result ≡ of_exchange outcome)
      × ExchangesCode meaning error_meaning reading error_reading step client login code before outcome after

  -- if client, endpoint and the URL to which the redirect came are the login's, and the redirect has
  -- a code, the token request for that code is made. Else, or if memory runs out before that, the
  -- HTTP client is unchanged, and the error says why and holds the login.
  abbrev pub EndsLogin : (D → A) → (T → E) → (Data → Reading A) → (Data → Reading E)
      → (C → HttpRequest → Result HttpResponse RE → C → Type 0)
      → Settings
      → LoginView
      → Parts
      → List Pair
      → C → Result D (LoginError RE T) → C → Type 0
  EndsLogin meaning error_meaning reading error_reading step client login called pairs before result after =
      ((code : List ℕ) × (mismatch client login called ≡ None) × (answer login.state login.issuer pairs ≡ Ok code)
      × EndsExchange meaning error_meaning reading error_reading step client login code before result after)
      ⊎ ((refused : RefusedLogin) × (result ≡ Err (Refused refused)) × Refuses client login called pairs refused × (after ≡ before))

  -- what a redirect with these parameters, which came to the URL `called`, makes of a login, and of
  -- the HTTP client
  pub record FinishesLogin (meaning : D → A) (error_meaning : T → E)
      (reading : Data → Reading A) (error_reading : Data → Reading E)
      (is_ready : C → Type 0) (step : C → HttpRequest → Result HttpResponse RE → C → Type 0)
      (client : Settings) (login : LoginView) (called : Parts) (pairs : List Pair)
      (before : C) (result : Result D (LoginError RE T)) (after : C) : Type 0 where
    -- the login ends as the redirect's answer says
    pub end : EndsLogin meaning error_meaning reading error_reading step client login called pairs
        before result after
    -- a token is one for the redirect's code, from the login's server, at the login's redirect URI
    pub token : IfOk result (λ token. (mismatch client login called ≡ None)
        × ((code : List ℕ) × (answer login.state login.issuer pairs ≡ Ok code)
        × ExchangesCode meaning error_meaning reading error_reading step client login code
        before (Ok token) after))
    -- another client, endpoint or redirect URI is told by its name, and nothing is sent
    pub bound : (error : LoginMismatch) → mismatch client login called ≡ Some error
        → (result ≡ Err (refused_by (Mismatch error) login)) × (after ≡ before)
    -- without a code nothing is sent
    pub no_code : (why : RedirectErrorView) → answer login.state login.issuer pairs ≡ Err why
        → after ≡ before
    -- and so nothing is sent for another state
    pub other_state : is_state login.state (sole_text (codes "state") pairs) ≡ false
        → after ≡ before
    -- the login in an error is this login
    pub given_back : (refused : RefusedLogin) → result ≡ Err (Refused refused) → refused.login ≡ login
    -- memory runs out only where reading the redirect may want some
    pub memory : result ≡ Err (refused_by (Redirect Memory) login)
        → MayWantMemory login.state login.issuer pairs
    -- a redirect without a state, or with several, is refused without an allocation
    pub no_state : mismatch client login called ≡ None → sole_text (codes "state") pairs ≡ None
        → result ≡ Err (refused_by (Redirect OtherState) login)
    -- the HTTP client may be called again
    pub ready : is_ready after
