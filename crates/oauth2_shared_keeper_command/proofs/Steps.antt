-- The steps of keepers, from what each part of the code shows.
use Rattle.std.proofs.Common.{◌≡◌, ℕ, List, [], ◌∷◌, ◌++◌, Bool, true, false, Option, Some, None, codes, length, refl, append_assoc, subst, ◌+◌}
use Rattle.std.specs.Prelude.{slice_index_or, slice_set}
use Rattle.oauth2.specs.Settings.{Settings}
use Rattle.oauth2_shared_token.specs.declared.renewal.Told.{Told}
use Rattle.oauth2_shared_token.specs.declared.renewal.Told.TheVariants as told
use Rattle.oauth2_urls.specs.Addressed.{Addressed}
use Rattle.oauth2_world.specs.Events.{Event, stepped}
use Rattle.oauth2_script.specs.Replies.{Reply}
use Rattle.oauth2_script.specs.declared.shared_keeper_params.Fate.TheVariants as fates
use Rattle.oauth2_script.specs.declared.shared_keeper_params.SharedKeeperStep.{SharedKeeperStep}
use Rattle.oauth2_request_commands.specs.Client.{WithToken, missing}
use Rattle.oauth2_request_commands.specs.Out.{Output, AddsOutput, Adds, both, both_outputs, nothing}
use Rattle.oauth2_request_commands.specs.declared.status.RunStatus.{RunStatus}
use Rattle.oauth2_request_commands.proofs.Joined.{joined-assoc, joined-nothing}
use Rattle.oauth2_shared_keeper_command.specs.Effect.{Effect, end_events, load_effect, replace_effect}
use Rattle.oauth2_shared_keeper_command.specs.Refreshing.{IsRefreshed}
use Rattle.oauth2_shared_keeper_command.specs.Renewal.{over, going_on, turn_of, after_turn}
use Rattle.oauth2_shared_keeper_command.specs.SharedKeeper.{Standing, IsEffect, without_effect, refresh_text, told_of, with_given, coming, around, IsSending, IsAction, IsStep, AreSteps, says, with_renewal}
use Rattle.oauth2_shared_keeper_command.specs.declared.action.Action.{Action}
use Rattle.oauth2_shared_keeper_command.specs.declared.action.Action.TheVariants as action
use Rattle.oauth2_shared_keeper_command.specs.declared.action.Replacement.{Replacement}
use Rattle.oauth2_shared_keeper_command.specs.declared.action.Stored.{Stored}
use Rattle.oauth2_shared_keeper_command.specs.declared.renewal.Renewal.{Renewal}

-- a load leaves what is stored
pub load_leaves : (tokens : List (List ℕ)) (stored : Stored) (is_told : Bool) → stored ≡ (load_effect tokens stored is_told).stored
load_leaves tokens stored true = refl
load_leaves tokens stored false = refl

-- an effect is its parts
pub effect_is : (e : Effect) (text : List ℕ) (what : Told ℕ) (stored : Stored) → text ≡ e.text → what ≡ e.told → stored ≡ e.stored
    → record { text = text; told = what; stored = stored } ≡ e
effect_is e text what stored t w s = rw (t, w, s) refl

module _ (client : Settings) (url : Addressed) (s kept : Standing) (keeper : ℕ) (renewal : Renewal) (o : Output) where
  pub load_is : (act : Action) (is_done is_told : Bool) → act ≡ action.Load → IsEffect s keeper renewal (load_effect s.tokens s.stored is_told) o kept
      → IsAction client url s keeper renewal act is_done is_told o kept
  load_is act is_done is_told e h = rw e h

  pub replace_is : (act : Action) (asked : Replacement) (is_done is_told : Bool) → act ≡ action.Replace asked
      → IsEffect s keeper renewal (replace_effect s.tokens s.stored asked is_done is_told) o kept → IsAction client url s keeper renewal act is_done is_told o kept
  replace_is act asked is_done is_told e h = rw e h

  pub lost_is : (act : Action) (token : ℕ) (is_done is_told : Bool) → act ≡ action.Refresh token → is_done ≡ false
      → IsEffect s keeper renewal (without_effect s (refresh_text s.tokens token ++ codes " lost") told.Nothing) o kept
      → IsAction client url s keeper renewal act is_done is_told o kept
  lost_is act token is_done is_told e f h = rw (e, f) h

  pub nothing_is : (act : Action) (is_done is_told : Bool) → act ≡ action.Nothing
      → IsEffect s keeper renewal (without_effect s (codes "over") told.Nothing) o kept → IsAction client url s keeper renewal act is_done is_told o kept
  nothing_is act is_done is_told e h = rw e h

module _ (client : Settings) (url : Addressed) (place : ℕ) (s kept : Standing) (step : SharedKeeperStep) (o : Output) where
  abbrev last : Renewal
  last = slice_index_or s.renewals step.keeper over

  pub stopped_is : (renewal : Renewal) → step.fate ≡ fates.Stopped → renewal ≡ going_on place last.action last
      → IsEffect s step.keeper renewal (without_effect s (codes "stopped") told.Stop) o kept → IsStep client url place s step o kept
  stopped_is renewal f r h = rw (f, ← r) h

  pub killed_is : step.fate ≡ fates.Killed → o ≡ says (stepped step.keeper (codes "killed") ∷ []) → kept ≡ with_renewal s step.keeper over
      → IsStep client url place s step o kept
  killed_is f shown is = rw f (shown, is)

-- a refresh token that is sent, from its parts
pub sending_told : (client : Settings) (url : Addressed) (s : Standing) (keeper : ℕ) (renewal : Renewal) (token : ℕ) (is_told : Bool)
    (sent : Output) (given : Option (List ℕ)) (left : List Reply) (what : Told ℕ)
    (stored : Stored) (tokens : List (List ℕ)) (renewals : List Renewal)
    → IsRefreshed client url (slice_index_or s.tokens token []) (coming is_told s.replies) sent given left
    → what ≡ told_of s.tokens given → stored ≡ s.stored → tokens ≡ with_given s.tokens given → renewals ≡ slice_set s.renewals keeper (after_turn renewal what)
    → (old mid after new : List Event) (status : RunStatus) → mid ≡ old ++ stepped keeper (refresh_text s.tokens token) ∷ []
    → AddsOutput mid after status sent → new ≡ after ++ end_events (with_given s.tokens given) keeper (turn_of renewal what).step
    → (o : Output) × IsSending client url s keeper renewal token is_told o (record { stored = stored; tokens = tokens; renewals = renewals; replies = left })
    × AddsOutput old new status o
sending_told client url s keeper renewal token is_told sent given left what stored tokens renewals refreshed w st t r old mid after new status m (added, ended) n =
    let begin : List Event = stepped keeper (refresh_text s.tokens token) ∷ [] in
    let end = end_events (with_given s.tokens given) keeper (turn_of renewal (told_of s.tokens given)).step in
    let all : new ≡ old ++ (begin ++ sent.events ++ end) = rw (n, added, m, w) (simp append_assoc) in
    (around begin sent end, (sent, given, left, refreshed, refl, rw (st, t, r, w) refl), (all, ended))

-- the output for the endpoint that there is
pub endpoint_told : (IsOut : Addressed → Output → Type 0) (url : Option Addressed) (u : Addressed) → url ≡ Some u
    → (old new : List Event) (status : RunStatus) → ((o : Output) × IsOut u o × AddsOutput old new status o) → Adds old new status (WithToken IsOut url)
endpoint_told IsOut url u there old new status (o, is, (added, ended)) = rw there (o, is, added, ended)

-- there is none
pub no_endpoint_told : (IsOut : Addressed → Output → Type 0) (url : Option Addressed) → url ≡ None
    → (old new : List Event) (status : RunStatus) → AddsOutput old new status (missing (codes "token")) → Adds old new status (WithToken IsOut url)
no_endpoint_told IsOut url none old new status (added, ended) = rw none (missing (codes "token"), refl, added, ended)

-- ---- all steps

module _ (client : Settings) (url : Addressed) (first : Standing) where
  -- `done` is what is shown of the steps before `now`; whatever is shown of the rest comes behind it
  abbrev pub SoFar : List SharedKeeperStep → List SharedKeeperStep → ℕ → Standing → List Event → List Event → RunStatus → Type 0
  SoFar all left place now old new status =
      (done : Output) × AddsOutput old new status done
      × ((rest : Output) (kept : Standing) → AreSteps client url place now left rest kept → AreSteps client url 0 first all (both_outputs done rest) kept)

  -- one more step
  pub one_more : (now next : Standing) (all : List SharedKeeperStep) (step : SharedKeeperStep) (later : List SharedKeeperStep) (place : ℕ)
      (old mid new : List Event) (status later_status : RunStatus)
      → SoFar all (step ∷ later) place now old mid status
      → ((o : Output) × IsStep client url place now step o next × AddsOutput mid new later_status o)
      → SoFar all later (place + 1) next old new (both status later_status)
  one_more now next all step later place old mid new status later_status (done, (added, ended), goes_on) (o, is, (added_now, ended_now)) =
      let all : new ≡ old ++ (both_outputs done o).events = rw (added_now, added) (append_assoc old done.events o.events) in
      let ends : both status later_status ≡ (both_outputs done o).status = rw (ended, ended_now) refl in (
        both_outputs done o,
        (all, ends),
        λ rest kept steps. rw (joined-assoc done o rest) (goes_on (both_outputs o rest) kept (o, next, rest, is, steps, refl)),
      )

  -- no step is left
  pub no_more : (now : Standing) (all left : List SharedKeeperStep) → length left ≡ 0 → (place : ℕ) (old new : List Event) (status : RunStatus)
      → SoFar all left place now old new status → (o : Output) × AreSteps client url 0 first all o now × AddsOutput old new status o
  no_more now all [] none place old new status (done, added, goes_on) =
      (done, subst (λ (o : Output). AreSteps client url 0 first all o now) (joined-nothing done) (goes_on nothing now (refl, refl)), added)
  no_more now all (step ∷ left) none place old new status so_far = cc
