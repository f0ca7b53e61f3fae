-- Requests for a token, from what their parameters are.
use Rattle.std.proofs.Common.{◌≡◌, ◌⊎◌, inl, inr, ℕ, List, false, Option, None, Some, refl}
use Rattle.std.specs.Prelude.{◌≢◌, IsTrue}
use Rattle.oauth2_urls.specs.Addressed.{Addressed}
use Rattle.oauth2_form.specs.Pairs.{Pair}
use Rattle.oauth2_grants.specs.Extension.{ExtensionRequest, with_params}
use Rattle.oauth2_grants.specs.GrantText.{grant_fault_text}
use Rattle.oauth2_grants.specs.declared.grant_fault.GrantFault.{GrantFault}
use Rattle.oauth2_grants.specs.declared.grant_fault.GrantFault.TheVariants.{Memory, NameIsTaken}
use Rattle.oauth2_request_commands.specs.Client.{WithEndpoint, missing}
use Rattle.oauth2_request_commands.specs.Out.{Output, AddsOutput, Adds, failure_output}
use Rattle.oauth2_request_commands.specs.declared.status.RunStatus.{RunStatus}
use Rattle.oauth2_world.specs.Events.{Event}
use Rattle.oauth2_world.specs.declared.event.FaultKind.TheVariants.{TakenParameter}
use Rattle.oauth2_grant_commands.specs.TokenGrant.{WithExtra, has_taken_name}

module _ (IsOutput : ExtensionRequest → Output → Type 0) (r : ExtensionRequest) (extra : List Pair)
    (old new : List Event) (s : RunStatus) where
  -- the request that was made has these parameters
  pub asked_told : (made : ExtensionRequest) → (has_taken_name extra ≡ false) × (made ≡ with_params r extra)
      → Adds old new s (IsOutput made) → Adds old new s (WithExtra IsOutput r extra)
  asked_told made (free, is) adds =
      let shown : IsOutput (with_params r extra) adds.0 = rw is at adds.1 in
      (adds.0, rw free shown, adds.2, adds.3)

  -- no request was made
  pub refused_told : (e : GrantFault) → (e ≡ Memory) ⊎ ((e ≡ NameIsTaken) × IsTrue (has_taken_name extra))
      → (e ≢ Memory) × AddsOutput old new s (failure_output TakenParameter (grant_fault_text e))
      → Adds old new s (WithExtra IsOutput r extra)
  refused_told e (inl memory) (other, told) = absurd (other memory)
  refused_told e (inr (taken, is)) (other, told) =
      let shown : AddsOutput old new s (failure_output TakenParameter (grant_fault_text NameIsTaken)) = rw taken at told in
      (failure_output TakenParameter (grant_fault_text NameIsTaken), rw is refl, shown.0, shown.1)

-- what is shown for the endpoint that the client has, or that it has none
module _ (name : List ℕ) (IsOut : Addressed → Output → Type 0) (url : Option Addressed) (old new : List Event) (s : RunStatus) where
  pub there_told : (u : Addressed) → url ≡ Some u → Adds old new s (IsOut u) → Adds old new s (WithEndpoint name IsOut url)
  there_told u is adds = let shown : WithEndpoint name IsOut (Some u) adds.0 = adds.1 in (adds.0, rw is shown, adds.2, adds.3)

  pub absent_told : url ≡ None → AddsOutput old new s (missing name) → Adds old new s (WithEndpoint name IsOut url)
  absent_told is told = (missing name, rw is refl, told.0, told.1)
