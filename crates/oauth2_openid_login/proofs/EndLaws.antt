-- How a login ends.
use Rattle.std.proofs.Common.{◌≡◌, ℕ, ℤ, List, Option, Some, None, Err, refl, ap, subst, ◌∙◌, inl, inr}
use Rattle.std.specs.Prelude.{IsSome, Result}
use Rattle.serde_json.specs.Data.{Data}
use Rattle.jiff.specs.Types.{Timestamp}
use Rattle.oauth2_json.specs.Reading.{Reading}
use Rattle.oauth2_wire.specs.Request.{HttpRequest}
use Rattle.oauth2_wire.specs.Reply.{HttpResponse}
use Rattle.oauth2.specs.Settings.{Settings}
use Rattle.url.specs.Parts.{Parts}
use Rattle.oauth2_form.specs.Pairs.{Pair}
use Rattle.std.proofs.lemmas.Option.{none-some}
use Rattle.oauth2_openid.specs.declared.read_error.IdTokenReadError.{IdTokenReadError}
use Rattle.oauth2_openid.specs.declared.read_error.IdTokenReadError.TheVariants as read
use Rattle.oauth2_openid.specs.Claims.{Expectation}
use Rattle.oauth2_openid.specs.Token.{DecodedToken, TokenReading, TokenErrsAs, too_long, not_three_parts, not_base64, at_fault}
use Rattle.oauth2_json.specs.Reading.{fault_of}
use Rattle.oauth2_openid_login.specs.declared.login_error.OpenIdLoginError.{OpenIdLoginError}
use Rattle.oauth2_openid_login.specs.End.{JudgesIdToken, EndsOpenIdLogin, id_token_reading}
use Rattle.oauth2_openid_login.specs.declared.login_error.OpenIdLoginError.TheVariants.{Refused}
use Rattle.oauth2_openid_login.specs.declared.login_end.OpenIdLoginEnd.{OpenIdLoginEnd}
use Rattle.oauth2_openid_login.specs.declared.login_refusal.RefusedOpenIdLogin.{RefusedOpenIdLogin}
use Rattle.oauth2_openid_login.specs.Login.{OpenIdKept}
use Rattle.oauth2_openid_login.specs.Provider.{Provider, expected_of}
use Rattle.oauth2_openid_login.specs.private.Told.{told_as}

-- what reads to something is there
read_of_some : (text : Option (List ℕ)) (told : TokenReading DecodedToken) → id_token_reading text ≡ Some told → IsSome text
read_of_some (Some text) told is = refl
read_of_some None told is = absurd (none-some told is)

module _ {D RE T : Type 0} (access_token : D → List ℕ) (id_token : D → Option (List ℕ)) (expected : Expectation) (now : ℤ) (response : D) where
  pub JudgesIdToken-unread : (error : IdTokenReadError) (told : TokenReading DecodedToken) (unread : OpenIdLoginError RE T) → unread ≡ told_as error
      → id_token_reading (id_token response) ≡ Some told → TokenErrsAs error told
      → JudgesIdToken access_token id_token expected now response (Err unread)
  JudgesIdToken-unread read.TooLong told unread same is errs = rw same (too_long, refl, is ∙ ap Some errs)
  JudgesIdToken-unread read.NotThreeParts told unread same is errs = rw same (not_three_parts, refl, is ∙ ap Some errs)
  JudgesIdToken-unread (read.NotBase64 part) told unread same is errs = rw same (not_base64 part, refl, is ∙ ap Some errs)
  JudgesIdToken-unread (read.Fault part fault) told unread same is errs = rw same (at_fault part (fault_of fault), refl, is ∙ ap Some errs)
  JudgesIdToken-unread read.Memory told unread same is errs = rw same (read_of_some (id_token response) told is)

module _ {D A T E RE C : Type 0} (meaning : D → A) (error_meaning : T → E) (reading : Data → Reading A) (error_reading : Data → Reading E) (step : C → HttpRequest → Result HttpResponse RE → C → Type 0) (access_token token_type : D → List ℕ) (id_token : D → Option (List ℕ)) (client : Settings) (login : OpenIdKept) (provider : Provider) (ToldByClock : Timestamp → Type 0) (called : Parts) (pairs : List Pair) (before after : C) where
  -- a login that is given back is the login, and nothing was sent
  pub openid_login-given_back : (result : Result (OpenIdLoginEnd D) (OpenIdLoginError RE T))
      → EndsOpenIdLogin meaning error_meaning reading error_reading step access_token token_type id_token client login provider ToldByClock called pairs before result after
      → (refused : RefusedOpenIdLogin) → result ≡ Err (Refused refused) → (refused.login ≡ login) × (after ≡ before)
  openid_login-given_back result (inl (code, found, inl (response, exchanged, now, at, inl (bearer, judged)))) refused is =
      absurd (subst (JudgesIdToken access_token id_token (expected_of provider client login) now.nanosecond response) is judged)
  openid_login-given_back result (inl (code, found, inl (response, exchanged, now, at, inr (other, same)))) refused is = cc
  openid_login-given_back result (inl (code, found, inr (fault, same, exchanged))) refused is = cc
  openid_login-given_back result (inr (kept, same, back, shown, stayed)) refused is = (cc, stayed)
