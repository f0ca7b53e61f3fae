-- What happens under one name is a run of its fleet.
use Rattle.std.proofs.Common.{ℕ, zero, suc, ◌+◌, ◌≤◌, List, [], ◌∷◌, Bool, if◌then◌else◌, ◌==◌, subst, sym, arith, inl, inr}
use Rattle.std.proofs.lemmas.Bool.Decides.{eqb_tells}
use Rattle.oauth2_shared_token.specs.Run.{has_refresh, times_sent, times_stored}
use Rattle.oauth2_shared_token.specs.Fleet.{Fleet, CanOccur, later, IsFleetRun}
use Rattle.oauth2_shared_token.specs.Names.{AtName, later_at, IsRunAtNames, those_at, fleets_of, EachNameRuns, events_at, over_names, EachSendingOverNamesWasStored, EachIsSentOnceOverNames}
use Rattle.oauth2_shared_token.proofs.Fleets.{each_fleet_runs}
use Rattle.oauth2_shared_token.proofs.Sendings.{each_sending_was_stored}

runs_at : (n : ℕ) (fleets : ℕ → Fleet) (all : List AtName) → IsRunAtNames fleets all → IsFleetRun (fleets n) (those_at n all)
runs_at n fleets [] run = tt
runs_at n fleets (here ∷ rest) run =
    let after : IsFleetRun (if n == here.name then later (fleets n) here.what else fleets n) (those_at n rest) = runs_at n (later_at fleets here) rest run.1 in
    elim (eqb_tells n here.name) [
      | inl same ↦
          let can : CanOccur (fleets n) here.what = subst (λ (m : ℕ). CanOccur (fleets m) here.what) (sym same.1) run.0 in
          let next : IsFleetRun (later (fleets n) here.what) (those_at n rest) = subst (λ (b : Bool). IsFleetRun (if b then later (fleets n) here.what else fleets n) (those_at n rest)) same.0 after in
          let both : IsFleetRun (fleets n) (here.what ∷ those_at n rest) = (can, next) in
          subst (λ (b : Bool). IsFleetRun (fleets n) (if b then here.what ∷ those_at n rest else those_at n rest)) (sym same.0) both
      | inr other ↦
          let next : IsFleetRun (fleets n) (those_at n rest) = subst (λ (b : Bool). IsFleetRun (if b then later (fleets n) here.what else fleets n) (those_at n rest)) other.0 after in
          subst (λ (b : Bool). IsFleetRun (fleets n) (if b then here.what ∷ those_at n rest else those_at n rest)) (sym other.0) next
    ]

pub each_name_runs : EachNameRuns
each_name_runs starts all n run = runs_at n (fleets_of starts) all run

each_is_below : (names : ℕ) (f g : ℕ → ℕ) → ((n : ℕ) → f n ≤ g n) → over_names names f ≤ over_names names g
each_is_below zero f g below = omega arith
each_is_below (suc n) f g below =
    let before = each_is_below n f g below in
    let here = below n in
    omega (arith, before, here)

pub sendings_over_names_were_stored : EachSendingOverNamesWasStored
sendings_over_names_were_stored names starts all r run =
    each_is_below names (λ n. times_sent r (events_at starts all n)) (λ n. has_refresh r (starts n) + times_stored r (events_at starts all n))
    (λ n. each_sending_was_stored (starts n) (events_at starts all n) r (each_fleet_runs (starts n) (those_at n all) (each_name_runs starts all n run)).0)

pub each_is_sent_once_over_names : EachIsSentOnceOverNames
each_is_sent_once_over_names names starts all r run once =
    let below = sendings_over_names_were_stored names starts all r run in
    omega (arith, below, once)
