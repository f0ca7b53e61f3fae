-- The end of a login with OpenID Connect (Core 1.0, 3.1.3).
use Rattle.std.specs.Prelude.{◌≡◌, ℕ, ℤ, ◌⊎◌, List, ◌++◌, codes, map, Option, Some, None, IsSome, option_map, Result, Ok, Err, IfOk, false}
use Rattle.std.specs.Char.{to_ascii_lowercase}
use Rattle.jiff.specs.Types.{Timestamp}
use Rattle.serde_json.specs.Data.{Data}
use Rattle.oauth2_json.specs.Reading.{Reading, fault_of}
use Rattle.oauth2_wire.specs.Request.{HttpRequest}
use Rattle.oauth2_wire.specs.Reply.{HttpResponse}
use Rattle.oauth2_form.specs.Pairs.{Pair}
use Rattle.oauth2.specs.Settings.{Settings}
use Rattle.oauth2_wire.specs.declared.error.RequestTokenError.{RequestTokenError}
use Rattle.oauth2_wire.specs.Display.{fault_text}
use Rattle.url.specs.Parts.{Parts}
use Rattle.oauth2_redirect.specs.declared.login_refusal.LoginMismatch.{LoginMismatch}
use Rattle.oauth2_redirect.specs.declared.login_refusal.LoginRefusal.TheVariants as refusals
use Rattle.oauth2_redirect.specs.declared.redirect.RedirectError.TheVariants as redirect
use Rattle.oauth2_redirect.specs.Bound.{mismatch}
use Rattle.oauth2_redirect.specs.End.{ExchangesCode}
use Rattle.oauth2_redirect.specs.Login.{LoginView}
use Rattle.oauth2_redirect.specs.Query.{sole_text}
use Rattle.oauth2_redirect.specs.Redirect.{MayWantMemory, RedirectErrorView, answer, is_state}
use Rattle.oauth2_openid.specs.declared.read_error.IdTokenReadError.{IdTokenReadError}
use Rattle.oauth2_openid.specs.declared.read_error.IdTokenReadError.TheVariants as read
use Rattle.oauth2_openid.specs.Claims.{Expectation}
use Rattle.oauth2_openid.specs.ErrorTexts.{claims_error_text, id_token_read_error_text}
use Rattle.oauth2_openid.specs.Reading.{compact_token_reading}
use Rattle.oauth2_openid.specs.Seen.{token_of}
use Rattle.oauth2_openid.specs.Token.{DecodedToken, TokenFault, TokenReading, too_long, not_three_parts, not_base64, at_fault}
use Rattle.oauth2_openid.specs.TokenRules.{Holds, token_checked}
use Rattle.oauth2_openid_login.specs.declared.login_end.OpenIdLoginEnd.{OpenIdLoginEnd}
use Rattle.oauth2_openid_login.specs.declared.login_error.OpenIdLoginError.{OpenIdLoginError}
use Rattle.oauth2_openid_login.specs.declared.login_error.OpenIdLoginError.TheVariants.{Refused, Token, OtherTokenType, NoIdToken, Read, Claims, Memory}
use Rattle.oauth2_openid_login.specs.declared.login_refusal.OpenIdLoginRefusal.{OpenIdLoginRefusal}
use Rattle.oauth2_openid_login.specs.declared.login_refusal.OpenIdLoginRefusal.TheVariants.{Login}
use Rattle.oauth2_openid_login.specs.declared.login_refusal.RefusedOpenIdLogin.{RefusedOpenIdLogin}
use Rattle.oauth2_openid_login.specs.Login.{OpenIdKept}
use Rattle.oauth2_openid_login.specs.Provider.{Provider, expected_of}
use Rattle.oauth2_openid_login.specs.Refusal.{AuthorizesOpenIdLogin, ShowsOpenIdRefusal, openid_refusal_text, provider_refusal}

-- the text that `Display` writes of an error, where `text` is that of the server's error
abbrev pub openid_login_error_text : {RE T : Type 0} → (T → Option (List ℕ)) → OpenIdLoginError RE T
    → Option (List ℕ)
openid_login_error_text text (Refused refused) = openid_refusal_text refused.error
openid_login_error_text text (Token error) = fault_text text error
openid_login_error_text text OtherTokenType = Some (codes "token type is not Bearer")
openid_login_error_text text NoIdToken = Some (codes "token response has no ID token")
openid_login_error_text text (Read error) =
    Some (codes "ID token: " ++ id_token_read_error_text error)
openid_login_error_text text (Claims error) = Some (codes "ID token: " ++ claims_error_text error)
openid_login_error_text text Memory = Some (codes "Out of memory")

-- the debug text of an error, which hides what it holds
abbrev pub openid_login_error_debug : {RE T : Type 0} → OpenIdLoginError RE T → List ℕ
openid_login_error_debug (Refused refused) = codes "Refused([redacted])"
openid_login_error_debug (Token error) = codes "Token([redacted])"
openid_login_error_debug OtherTokenType = codes "OtherTokenType"
openid_login_error_debug NoIdToken = codes "NoIdToken"
openid_login_error_debug (Read error) = codes "Read([redacted])"
openid_login_error_debug (Claims error) = codes "Claims([redacted])"
openid_login_error_debug Memory = codes "Memory"

-- what is wrong with the ID token, by the error of reading it; `None` if memory ran out
abbrev pub fault_told : IdTokenReadError → Option TokenFault
fault_told read.TooLong = Some too_long
fault_told read.NotThreeParts = Some not_three_parts
fault_told (read.NotBase64 part) = Some (not_base64 part)
fault_told (read.Fault part fault) = Some (at_fault part (fault_of fault))
fault_told read.Memory = None

-- the ID token that the text is read as, or its fault, if there is a text
abbrev pub id_token_reading : Option (List ℕ) → Option (TokenReading DecodedToken)
id_token_reading text = option_map compact_token_reading text

-- the token type is `Bearer` (3.1.3.3), whatever the case of its letters (RFC 6749, 5.1)
abbrev pub IsBearer : List ℕ → Type 0
IsBearer token_type = map to_ascii_lowercase token_type ≡ map to_ascii_lowercase (codes "Bearer")

module _ {D RE T : Type 0} where
  -- the result for the ID token of a response: the response and its ID token, if the token can be
  -- read and meets every rule; or an error that says what is wrong with the token first; or
  -- `Memory`, if there is a token to read
  abbrev pub JudgesIdToken : (D → List ℕ) → (D → Option (List ℕ)) → Expectation → ℤ → D
      → Result (OpenIdLoginEnd D) (OpenIdLoginError RE T) → Type 0
  JudgesIdToken access_token id_token expected now response (Ok end) =
      (end.token_response ≡ response)
      × (id_token_reading (id_token response) ≡ Some (Ok (token_of end.id_token)))
      × (token_checked expected (access_token response) now (token_of end.id_token) ≡ Ok end.access_token_hash)
  JudgesIdToken access_token id_token expected now response (Err (Refused refused)) = ⊥
  JudgesIdToken access_token id_token expected now response (Err (Token error)) = ⊥
  JudgesIdToken access_token id_token expected now response (Err OtherTokenType) = ⊥
  JudgesIdToken access_token id_token expected now response (Err NoIdToken) =
      id_token response ≡ None
  JudgesIdToken access_token id_token expected now response (Err (Read error)) =
      (fault : TokenFault) × (fault_told error ≡ Some fault) × (id_token_reading (id_token response) ≡ Some (Err fault))
  JudgesIdToken access_token id_token expected now response (Err (Claims error)) =
      (token : DecodedToken) × (id_token_reading (id_token response) ≡ Some (Ok token))
      × (token_checked expected (access_token response) now token ≡ Err error)
  JudgesIdToken access_token id_token expected now response (Err Memory) =
      IsSome (id_token response)

  -- the result for a token response: that for its ID token if its token type is `Bearer`
  -- (3.1.3.3), and else `OtherTokenType`
  abbrev pub Judges : (D → List ℕ) → (D → List ℕ) → (D → Option (List ℕ)) → Expectation → ℤ → D
      → Result (OpenIdLoginEnd D) (OpenIdLoginError RE T) → Type 0
  Judges access_token token_type id_token expected now response result =
      (IsBearer (token_type response) × JudgesIdToken access_token id_token expected now response result)
      ⊎ ((IsBearer (token_type response) → ⊥) × (result ≡ Err OtherTokenType))

  -- the result is that the login was refused for this reason
  abbrev pub IsRefusedFor : OpenIdLoginRefusal → Result (OpenIdLoginEnd D) (OpenIdLoginError RE T)
      → Type 0
  IsRefusedFor error result =
      (refused : RefusedOpenIdLogin) × (result ≡ Err (Refused refused)) × (refused.error ≡ error)

module _ {D A T E RE C : Type 0} where
  -- the token request for this code returns a response, which is judged at a time that the clock
  -- returned; or that request fails
  abbrev pub EndsWithCode : (D → A) → (T → E) → (Data → Reading A) → (Data → Reading E)
      → (C → HttpRequest → Result HttpResponse RE → C → Type 0)
      → (D → List ℕ)
      → (D → List ℕ)
      → (D → Option (List ℕ))
      → Settings
      → LoginView
      → List ℕ
      → Expectation
      → (Timestamp → Type 0)
      → C → Result (OpenIdLoginEnd D) (OpenIdLoginError RE T) → C → Type 0
  EndsWithCode meaning error_meaning reading error_reading step access_token token_type id_token client login code expected ToldByClock before result after =
      ((response : D)
      × ExchangesCode meaning error_meaning reading error_reading step client login code
      before (Ok response) after
      × (now : Timestamp) × ToldByClock now
      × Judges access_token token_type id_token expected now.nanosecond response result)
      ⊎ ((error : RequestTokenError RE T) × (result ≡ Err (Token error))
      × ExchangesCode meaning error_meaning reading error_reading step client login code before (Err error) after)

  -- a login ends in one of two ways. The redirect has a code of this login, and the login ends with
  -- it. Or the login is refused, or memory ran out before the request: the HTTP client is unchanged,
  -- and the error says why and holds the login.
  abbrev pub EndsOpenIdLogin : (D → A) → (T → E) → (Data → Reading A) → (Data → Reading E)
      → (C → HttpRequest → Result HttpResponse RE → C → Type 0)
      → (D → List ℕ)
      → (D → List ℕ)
      → (D → Option (List ℕ))
      → Settings
      → OpenIdKept
      → Provider
      → (Timestamp → Type 0)
      → Parts
      → List Pair
      → C → Result (OpenIdLoginEnd D) (OpenIdLoginError RE T) → C → Type 0
  EndsOpenIdLogin meaning error_meaning reading error_reading step access_token token_type id_token client login provider ToldByClock called pairs before result after =
      ((code : List ℕ) × AuthorizesOpenIdLogin client login provider called pairs code
      × EndsWithCode meaning error_meaning reading error_reading step access_token token_type id_token
      client login.login code (expected_of provider client login) ToldByClock before result after)
      ⊎ ((refused : RefusedOpenIdLogin) × (result ≡ Err (Refused refused)) × (refused.login ≡ login)
      × ShowsOpenIdRefusal client login provider called pairs refused.error × (after ≡ before))

  -- what a redirect to this URL with these parameters makes of a login at this provider, and of the
  -- HTTP client
  pub record FinishesOpenIdLogin (meaning : D → A) (error_meaning : T → E)
      (reading : Data → Reading A) (error_reading : Data → Reading E)
      (is_ready : C → Type 0) (step : C → HttpRequest → Result HttpResponse RE → C → Type 0)
      (access_token : D → List ℕ) (token_type : D → List ℕ) (id_token : D → Option (List ℕ))
      (client : Settings) (login : OpenIdKept) (provider : Provider)
      (ToldByClock : Timestamp → Type 0) (called : Parts) (pairs : List Pair)
      (before : C) (result : Result (OpenIdLoginEnd D) (OpenIdLoginError RE T)) (after : C)
      : Type 0 where
    -- the login ends with the redirect's code, or is refused
    pub end : EndsOpenIdLogin meaning error_meaning reading error_reading step
        access_token token_type id_token client login provider ToldByClock called pairs
        before result after
    -- in short: each rule holds at a time that the clock returned
    pub rules : IfOk result (λ end. (now : Timestamp) × ToldByClock now
        × Holds (expected_of provider client login) (access_token end.token_response)
        now.nanosecond (token_of end.id_token))
    -- where the token endpoint is not secure, or the login is another provider's, the login is
    -- refused for that reason, and nothing is sent
    pub other_provider : (error : OpenIdLoginRefusal)
        → provider_refusal client login provider ≡ Some error
        → IsRefusedFor error result × (after ≡ before)
    -- where the client, its token endpoint or the called URL is not the login's, too
    pub other_place : (error : LoginMismatch) → provider_refusal client login provider ≡ None
        → mismatch client login.login called ≡ Some error
        → IsRefusedFor (Login (refusals.Mismatch error)) result × (after ≡ before)
    -- without a code nothing is sent
    pub no_code : (why : RedirectErrorView)
        → answer login.login.state login.login.issuer pairs ≡ Err why → after ≡ before
    -- and so nothing is sent for another state
    pub other_state : is_state login.login.state (sole_text (codes "state") pairs) ≡ false
        → after ≡ before
    -- the login in an error is this login, and nothing is sent: what the ID token is checked against
    -- is made before the request, so this holds if memory runs out there too
    pub given_back : (refused : RefusedOpenIdLogin) → result ≡ Err (Refused refused)
        → (refused.login ≡ login) × (after ≡ before)
    -- memory runs out before the request only where reading the redirect may want some
    pub memory : IsRefusedFor (Login (refusals.Redirect redirect.Memory)) result
        → MayWantMemory login.login.state login.login.issuer pairs
    -- a redirect without a state, or with several, is refused without an allocation
    pub no_state : sole_text (codes "state") pairs ≡ None
        → provider_refusal client login provider ≡ None → mismatch client login.login called ≡ None
        → IsRefusedFor (Login (refusals.Redirect redirect.OtherState)) result
    -- the HTTP client may be called again
    pub ready : is_ready after
