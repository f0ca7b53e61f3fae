-- A code goes to the server that it came from.
use Rattle.std.proofs.Common.{◌≡◌, ℕ, List, [], ◌∷◌, ◌++◌, Bool, true, Option, Some, None, IsSome, IsTrue, codes, bytes_eq, refl, ap, sym, subst, ◌∙◌, ◌⊎◌, inl, inr}
use Rattle.std.specs.List.{Contains}
use Rattle.oauth2.specs.Settings.{Settings}
use Rattle.oauth2_redirect.specs.Login.{LoginView, issuer_text}
use Rattle.oauth2_redirect.specs.Query.{texts}
use Rattle.oauth2_redirect.specs.Redirect.{IssuerExpectation, required, compared, unknown, is_issuer}
use Rattle.oauth2_login_laws.specs.Event.{Event, Began, Asked, begin}
use Rattle.oauth2_login_laws.specs.Run.{IsRun}
use Rattle.oauth2_login_laws.specs.Laws.{EachCodeGoesToItsServer}
use Rattle.oauth2_login_laws.proofs.Keys.{same_is}
use Rattle.oauth2_login_laws.proofs.Lists.{Has, has, contains, split, has_left}
use Rattle.oauth2_login_laws.proofs.Runs.{each_request_is_its_logins}

-- a login that knows an issuer, and takes a redirect that names this one, knows this one
its_issuer : (expected : IssuerExpectation) (issuer : List ℕ) → IsSome (issuer_text expected) → is_issuer expected (issuer ∷ []) ≡ true → issuer_text expected ≡ Some issuer
its_issuer (required own) issuer known holds = ap Some (sym (same_is issuer own holds))
its_issuer (compared own) issuer known holds = ap Some (sym (same_is issuer own holds))
its_issuer unknown issuer known holds = cc

pub each_code_goes_to_its_server : EachCodeGoesToItsServer
each_code_goes_to_its_server events issuer url code run bears knows arrival login client number request there is =
    let event = Asked arrival login client number request in
    let cut = split events event (has events event there) in
    let law = each_request_is_its_logins cut.0 cut.1 arrival login client number request (subst (IsRun begin) cut.2 run) in
    let began : Contains events (Began login) =
    contains events (Began login) (subst (λ (es : List Event). Has es (Began login)) (sym cut.2) (has_left cut.0 (event ∷ cut.1) (Began login) (has cut.0 (Began login) law.0))) in
    let its : login.token_url ≡ url =
    elim (bears event arrival there refl (law.2.code ∙ ap Some is)) [
      | inl named ↦
          knows login began (its_issuer login.issuer issuer (named.1 login began law.1.place)
          (ap (λ (told : List (List ℕ)). is_issuer login.issuer told) (sym named.0) ∙ law.1.issuer))
      | inr own ↦ own login began law.1.place
    ] in
    law.2.endpoint ∙ its
