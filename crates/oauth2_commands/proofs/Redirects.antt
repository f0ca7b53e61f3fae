-- What a run shows of a redirect.
use Rattle.std.proofs.Common.{◌≡◌, ℕ, List, Result, refl}
use Rattle.std.specs.Prelude.{IfSome}
use Rattle.oauth2_redirect.specs.Redirect.{RedirectErrorView, ShowsRedirectError, redirect_error_text}
use Rattle.oauth2_redirect.specs.declared.redirect.RedirectError.{RedirectError}
use Rattle.oauth2_redirect.specs.declared.redirect.RedirectError.TheVariants as errors
use Rattle.oauth2_world.specs.Events.{Details, Event, Fault}
use Rattle.oauth2_world.specs.declared.event.FaultKind.TheVariants.{RefusedRedirect}
use Rattle.oauth2_request_commands.specs.Out.{fault_shown, AddsOutput}
use Rattle.oauth2_commands.specs.Redirect.{shown_answer}
use Rattle.oauth2_commands.specs.private.Redirects.{details_in}
use Rattle.oauth2_request_commands.specs.declared.status.RunStatus.{RunStatus}

-- the fault of a redirect with this text and these details
abbrev pub fault_with : List ℕ → Details → Fault
fault_with text details = record { kind = RefusedRedirect; text = text; details = details }

module _ (text : List ℕ) (details : Details) (old new : List Event) (s : RunStatus) where
  pub refusal_shown : (e : RedirectError) (told : Result (List ℕ) RedirectErrorView)
      → (e ≡ errors.Memory → ⊥) → ShowsRedirectError e told
      → IfSome (redirect_error_text e) (λ shown. text ≡ shown) → details ≡ details_in e
      → AddsOutput old new s (fault_shown (fault_with text details))
      → AddsOutput old new s (shown_answer told)
  refusal_shown errors.OtherState told other tells is known shown = rw tells (rw (is, known) at shown)
  refusal_shown errors.OtherIssuer told other tells is known shown = rw tells (rw (is, known) at shown)
  refusal_shown (errors.Refused error) told other tells is known shown = rw tells (rw (is, known) at shown)
  refusal_shown errors.NoCode told other tells is known shown = rw tells (rw (is, known) at shown)
  refusal_shown errors.Memory told other tells is known shown = absurd (other refl)
