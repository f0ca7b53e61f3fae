-- The end of a login whose ID token is verified (OpenID Connect Core 1.0, 3.1.3).
use Rattle.std.specs.Prelude.{◌≡◌, ℕ, List, codes, Option, Some, None, Result, Ok, Err, IfOk, false}
use Rattle.jiff.specs.Types.{Timestamp}
use Rattle.serde_json.specs.Data.{Data}
use Rattle.oauth2_json.specs.Reading.{Reading}
use Rattle.oauth2_form.specs.Pairs.{Pair}
use Rattle.oauth2_wire.specs.Request.{HttpRequest}
use Rattle.oauth2_wire.specs.Reply.{HttpResponse}
use Rattle.oauth2.specs.Settings.{Settings}
use Rattle.url.specs.Parts.{Parts}
use Rattle.oauth2_redirect.specs.declared.login_refusal.LoginMismatch.{LoginMismatch}
use Rattle.oauth2_redirect.specs.declared.login_refusal.LoginRefusal.TheVariants as refusals
use Rattle.oauth2_redirect.specs.declared.redirect.RedirectError.TheVariants as redirect
use Rattle.oauth2_redirect.specs.Bound.{mismatch}
use Rattle.oauth2_redirect.specs.Query.{sole_text}
use Rattle.oauth2_redirect.specs.Redirect.{MayWantMemory, RedirectErrorView, answer, is_state}
use Rattle.oauth2_openid.specs.Seen.{token_of}
use Rattle.oauth2_openid.specs.TokenRules.{Holds}
use Rattle.oauth2_openid_login.specs.declared.login_end.OpenIdLoginEnd.{OpenIdLoginEnd}
use Rattle.oauth2_openid_login.specs.declared.login_error.OpenIdLoginError.{OpenIdLoginError}
use Rattle.oauth2_openid_login.specs.declared.login_error.OpenIdLoginError.TheVariants.{Refused}
use Rattle.oauth2_openid_login.specs.declared.login_refusal.OpenIdLoginRefusal.{OpenIdLoginRefusal}
use Rattle.oauth2_openid_login.specs.declared.login_refusal.OpenIdLoginRefusal.TheVariants as openid
use Rattle.oauth2_openid_login.specs.declared.login_refusal.RefusedOpenIdLogin.{RefusedOpenIdLogin}
use Rattle.oauth2_openid_login.specs.End.{EndsOpenIdLogin, openid_login_error_text}
use Rattle.oauth2_openid_login.specs.Login.{OpenIdKept}
use Rattle.oauth2_openid_login.specs.Provider.{expected_of}
use Rattle.oauth2_openid_login.specs.Refusal.{provider_refusal}
use Rattle.oauth2_verified_login.specs.declared.login_error.VerifiedLoginError.{VerifiedLoginError}
use Rattle.oauth2_verified_login.specs.declared.login_error.VerifiedLoginError.TheVariants.{Login, Signature}
use Rattle.oauth2_verified_login.specs.Provider.{Verifying}
use Rattle.oauth2_keys.specs.Signature.{IsSigned, IsSignatureRefusal}
use Rattle.oauth2_verified_login.specs.Unverified.{Unverified, unverified_text}

module _ {D RE T : Type 0} where
  -- the result of the login without the check of its signature
  abbrev pub before_signature : Result (OpenIdLoginEnd D) (VerifiedLoginError D RE T)
      → Result (OpenIdLoginEnd D) (OpenIdLoginError RE T)
  before_signature (Ok end) = Ok end
  before_signature (Err (Login error)) = Err error
  before_signature (Err (Signature unverified)) = Ok unverified.end

  -- the text that `Display` writes of an error, where `text` is that of the server's error
  abbrev pub verified_login_error_text : (T → Option (List ℕ)) → VerifiedLoginError D RE T
      → Option (List ℕ)
  verified_login_error_text text (Login error) = openid_login_error_text text error
  verified_login_error_text text (Signature unverified) = Some (unverified_text unverified.error)

  -- the debug text of an error, which hides what it holds
  abbrev pub verified_login_error_debug : VerifiedLoginError D RE T → List ℕ
  verified_login_error_debug (Login error) = codes "Login([redacted])"
  verified_login_error_debug (Signature unverified) = codes "Signature([redacted])"

  -- the result is that the login was refused for this reason before anything was sent
  abbrev pub IsVerifiedRefusedFor : OpenIdLoginRefusal
      → Result (OpenIdLoginEnd D) (VerifiedLoginError D RE T) → Type 0
  IsVerifiedRefusedFor error result =
      (refused : RefusedOpenIdLogin) × (result ≡ Err (Login (Refused refused)))
      × (refused.error ≡ error)

module _ {D A T E RE C : Type 0} where
  -- what a redirect to this URL with these parameters makes of a login at this provider, and of the
  -- HTTP client
  pub record FinishesVerifiedLogin (meaning : D → A) (error_meaning : T → E)
      (reading : Data → Reading A) (error_reading : Data → Reading E)
      (is_ready : C → Type 0) (step : C → HttpRequest → Result HttpResponse RE → C → Type 0)
      (access_token : D → List ℕ) (token_type : D → List ℕ) (id_token : D → Option (List ℕ))
      (client : Settings) (login : OpenIdKept) (known : Verifying)
      (ToldByClock : Timestamp → Type 0) (called : Parts) (pairs : List Pair)
      (before : C) (result : Result (OpenIdLoginEnd D) (VerifiedLoginError D RE T)) (after : C)
      : Type 0 where
    -- apart from the signature, the login ends as an `OpenIdLogin` does
    pub end : EndsOpenIdLogin meaning error_meaning reading error_reading step
        access_token token_type id_token client login known.provider
        ToldByClock called pairs before (before_signature result) after
    -- in short: each rule holds at a time that the clock returned, and the token is signed
    pub verified : IfOk result (λ end. (now : Timestamp) × ToldByClock now
        × Holds (expected_of known.provider client login) (access_token end.token_response)
        now.nanosecond (token_of end.id_token)
        × IsSigned known.check (token_of end.id_token))
    -- if the signature is refused, each other rule holds
    pub unverified : (unverified : Unverified D) → result ≡ Err (Signature unverified)
        → (now : Timestamp) × ToldByClock now
        × Holds (expected_of known.provider client login)
        (access_token unverified.end.token_response) now.nanosecond
        (token_of unverified.end.id_token)
        × IsSignatureRefusal known.check (token_of unverified.end.id_token) unverified.error
    -- where the token endpoint is not secure, or the login is another provider's, the login is
    -- refused for that reason, and nothing is sent
    pub other_provider : (error : OpenIdLoginRefusal)
        → provider_refusal client login known.provider ≡ Some error
        → IsVerifiedRefusedFor error result × (after ≡ before)
    -- where the client, its token endpoint or the called URL is not the login's, too
    pub other_place : (error : LoginMismatch) → provider_refusal client login known.provider ≡ None
        → mismatch client login.login called ≡ Some error
        → IsVerifiedRefusedFor (openid.Login (refusals.Mismatch error)) result × (after ≡ before)
    -- without a code nothing is sent
    pub no_code : (why : RedirectErrorView)
        → answer login.login.state login.login.issuer pairs ≡ Err why
        → after ≡ before
    -- and so nothing is sent for another state
    pub other_state : is_state login.login.state (sole_text (codes "state") pairs) ≡ false
        → after ≡ before
    -- the login in an error is this login, and nothing is sent
    pub given_back : (refused : RefusedOpenIdLogin) → result ≡ Err (Login (Refused refused))
        → (refused.login ≡ login) × (after ≡ before)
    -- memory runs out before the request only where reading the redirect may want some
    pub memory : IsVerifiedRefusedFor (openid.Login (refusals.Redirect redirect.Memory)) result
        → MayWantMemory login.login.state login.login.issuer pairs
    -- a redirect without a state, or with several, is refused without an allocation
    pub no_state : sole_text (codes "state") pairs ≡ None
        → provider_refusal client login known.provider ≡ None
        → mismatch client login.login called ≡ None
        → IsVerifiedRefusedFor (openid.Login (refusals.Redirect redirect.OtherState)) result
    -- the HTTP client may be called again
    pub ready : is_ready after
