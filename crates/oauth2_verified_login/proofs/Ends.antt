-- A login's end, once its signature is checked.
use Rattle.std.proofs.Common.{◌≡◌, ℕ, List, Option, Ok, Err, IfOk, sym, ap, ◌∙◌, subst}
use Rattle.std.specs.Prelude.{Result}
use Rattle.jiff.specs.Types.{Timestamp}
use Rattle.serde_json.specs.Data.{Data}
use Rattle.oauth2_json.specs.Reading.{Reading}
use Rattle.oauth2_form.specs.Pairs.{Pair}
use Rattle.oauth2_wire.specs.Request.{HttpRequest}
use Rattle.oauth2_wire.specs.Reply.{HttpResponse}
use Rattle.oauth2.specs.Settings.{Settings}
use Rattle.url.specs.Parts.{Parts}
use Rattle.oauth2_openid.specs.Seen.{token_of}
use Rattle.oauth2_openid_login.specs.declared.login_end.OpenIdLoginEnd.{OpenIdLoginEnd}
use Rattle.oauth2_openid_login.specs.declared.login_error.OpenIdLoginError.{OpenIdLoginError}
use Rattle.oauth2_openid_login.specs.declared.login_error.OpenIdLoginError.TheVariants.{Refused}
use Rattle.oauth2_openid_login.specs.declared.login_refusal.OpenIdLoginRefusal.{OpenIdLoginRefusal}
use Rattle.oauth2_openid_login.specs.End.{EndsOpenIdLogin, FinishesOpenIdLogin, IsRefusedFor}
use Rattle.oauth2_openid_login.specs.Login.{OpenIdKept}
use Rattle.oauth2_verified_login.specs.declared.login_error.VerifiedLoginError.{VerifiedLoginError}
use Rattle.oauth2_verified_login.specs.declared.login_error.VerifiedLoginError.TheVariants.{Login, Signature}
use Rattle.oauth2_verified_login.specs.End.{FinishesVerifiedLogin, IsVerifiedRefusedFor, before_signature}
use Rattle.oauth2_verified_login.specs.Provider.{Verifying}
use Rattle.oauth2_keys.specs.Signature.{IsSigned, IsSignatureRefusal}
use Rattle.oauth2_verified_login.specs.Unverified.{Unverified}

module _ {D RE T N : Type 0} (Told : N → Type 0) (Held : OpenIdLoginEnd D → N → Type 0) (ended : Result (OpenIdLoginEnd D) (OpenIdLoginError RE T)) where
  -- what held of the end holds of the verified one too
  pub IfOk-verified : (Signed : OpenIdLoginEnd D → Type 0) (result : Result (OpenIdLoginEnd D) (VerifiedLoginError D RE T)) → before_signature result ≡ ended
      → IfOk ended (λ end. (now : N) × Told now × Held end now) → IfOk result Signed
      → IfOk result (λ end. (now : N) × Told now × Held end now × Signed end)
  IfOk-verified Signed (Ok end) same held signed =
      let there = subst (λ r. IfOk r (λ end. (now : N) × Told now × Held end now)) (sym same) held in
      (there.0, there.1, there.2, signed)
  IfOk-verified Signed (Err error) same held signed = tt

  -- and of one whose signature is refused
  pub held-unverified : (Explained : Unverified D → Type 0) (result : Result (OpenIdLoginEnd D) (VerifiedLoginError D RE T)) → before_signature result ≡ ended
      → IfOk ended (λ end. (now : N) × Told now × Held end now) → ((unverified : Unverified D) → result ≡ Err (Signature unverified) → Explained unverified)
      → (unverified : Unverified D) → result ≡ Err (Signature unverified) → (now : N) × Told now × Held unverified.end now × Explained unverified
  held-unverified Explained result same held refused unverified is =
      let from : Ok unverified.end ≡ ended = ap before_signature (sym is) ∙ same in
      let there = subst (λ r. IfOk r (λ end. (now : N) × Told now × Held end now)) (sym from) held in
      (there.0, there.1, there.2, refused unverified is)

module _ {D RE T : Type 0} where
  -- an error of the login stays one
  pub Login-from : (result : Result (OpenIdLoginEnd D) (VerifiedLoginError D RE T)) (error : OpenIdLoginError RE T) → before_signature result ≡ Err error → result ≡ Err (Login error)
  Login-from (Ok end) error is = cc
  Login-from (Err (Login other)) error is = cc
  Login-from (Err (Signature unverified)) error is = cc

  -- and a refusal stays one
  pub IsVerifiedRefusedFor-from : (error : OpenIdLoginRefusal) (ended : Result (OpenIdLoginEnd D) (OpenIdLoginError RE T)) (result : Result (OpenIdLoginEnd D) (VerifiedLoginError D RE T)) → before_signature result ≡ ended
      → IsRefusedFor error ended → IsVerifiedRefusedFor error result
  IsVerifiedRefusedFor-from error ended result same (refused, is, for) = (refused, Login-from result (Refused refused) (same ∙ is), for)

  pub IsRefusedFor-before : (error : OpenIdLoginRefusal) (ended : Result (OpenIdLoginEnd D) (OpenIdLoginError RE T)) (result : Result (OpenIdLoginEnd D) (VerifiedLoginError D RE T)) → before_signature result ≡ ended
      → IsVerifiedRefusedFor error result → IsRefusedFor error ended
  IsRefusedFor-before error ended result same (refused, is, for) = (refused, sym same ∙ ap before_signature is, for)

module _ {D A T E RE C : Type 0} {meaning : D → A} {error_meaning : T → E} {reading : Data → Reading A} {error_reading : Data → Reading E} {is_ready : C → Type 0} {step : C → HttpRequest → Result HttpResponse RE → C → Type 0} {access_token token_type : D → List ℕ} {id_token : D → Option (List ℕ)} {client : Settings} {login : OpenIdKept} {Told : Timestamp → Type 0} {called : Parts} {pairs : List Pair} {before after : C} {ended : Result (OpenIdLoginEnd D) (OpenIdLoginError RE T)} where
  -- a login ends so if it ended without its signature, and the signature is then checked
  pub FinishesVerifiedLogin-from : (known : Verifying) (result : Result (OpenIdLoginEnd D) (VerifiedLoginError D RE T))
      → FinishesOpenIdLogin meaning error_meaning reading error_reading is_ready step access_token token_type id_token client login known.provider Told called pairs before ended after
      → before_signature result ≡ ended
      → IfOk result (λ end. IsSigned known.check (token_of end.id_token))
      → ((unverified : Unverified D) → result ≡ Err (Signature unverified) → IsSignatureRefusal known.check (token_of unverified.end.id_token) unverified.error)
      → FinishesVerifiedLogin meaning error_meaning reading error_reading is_ready step access_token token_type id_token client login known Told called pairs before result after
  FinishesVerifiedLogin-from known result finished same signed refused =
      record {
        end = subst (λ r. EndsOpenIdLogin meaning error_meaning reading error_reading step access_token token_type id_token client login known.provider Told called pairs before r after) (sym same) finished.end;
        verified = IfOk-verified _ _ _ _ result same finished.rules signed;
        unverified = held-unverified _ _ _ _ result same finished.rules refused;
        other_provider = λ error is. (let other = finished.other_provider error is in (IsVerifiedRefusedFor-from error ended result same other.0, other.1));
        other_place = λ error none is. (let other = finished.other_place error none is in (IsVerifiedRefusedFor-from _ ended result same other.0, other.1));
        no_code = finished.no_code;
        other_state = finished.other_state;
        given_back = λ kept is. finished.given_back kept (sym same ∙ ap before_signature is);
        memory = λ is. finished.memory (IsRefusedFor-before _ ended result same is);
        no_state = λ none provider place. IsVerifiedRefusedFor-from _ ended result same (finished.no_state none provider place);
        ready = finished.ready;
      }
