-- What a call of a keeper sends is sent in a renewal of a name that it drew.
use Rattle.std.proofs.Common.{ℕ, ◌-◌, Bool, List, [], ◌∷◌, Option, Some, None, refl, subst, inl, inr, arith}
use Rattle.std.specs.Prelude.{ℤ}
use Rattle.std.specs.List.{Contains}
use Rattle.std.proofs.lemmas.List.{append-nil}
use Rattle.std.proofs.lemmas.List.Elements.{Contains-append_cases, Contains-append_right, Contains-push}
use Rattle.oauth2_shared_keeper.specs.declared.held.Held.{Held}
use Rattle.oauth2_shared_keeper.specs.declared.outcome.Outcome.{Outcome}
use Rattle.oauth2_shared_keeper.specs.declared.outcome.Outcome.TheVariants.{Ends, Waits}
use Rattle.oauth2_shared_keeper.specs.declared.renewed.Renewed.{Renewed}
use Rattle.oauth2_shared_keeper.specs.declared.settings.KeeperSettings.{KeeperSettings}
use Rattle.oauth2_shared_keeper.specs.Call.{Call, Load, Refresh}
use Rattle.oauth2_shared_keeper.specs.Renewal.{IsRenewal}
use Rattle.oauth2_shared_keeper.specs.Keeper.{Round, Blind, Seen, Renewing, IsRound, Holds, calls_of, calls_in}
use Rattle.oauth2_shared_keeper.specs.Keeper.{WorldCall, Reading, Slept, Drawn, events_of, events_in}
use Rattle.oauth2_shared_keeper.proofs.History.{the_only, none_given}
use Rattle.oauth2_shared_keeper.proofs.KeeperFacts.{waits_unsent}

-- a refresh is sent in a renewal whose name was drawn among these calls
abbrev IsOfARenewal : (E : Type 0) {T : Type 0} → KeeperSettings → T → Option T → List WorldCall → Type 0
IsOfARenewal E {T} settings token given events =
    (name : ℕ) × (calls : List (Call T)) × (end : Renewed T E) × Contains events (Drawn name)
    × IsRenewal name settings.limits calls end × Contains calls (Refresh token given)

module _ {T E : Type 0} (is_good : T → ℤ → ℕ → Bool) (settings : KeeperSettings) (token : T) (given : Option T) where
  in_round : (r : Round T E) (outcome : Outcome T E) → IsRound is_good settings r outcome → Contains (calls_of r) (Refresh token given)
      → IsOfARenewal E settings token given (events_of r)
  in_round Blind outcome is has = absurd (none_given (Load None ∷ []) token given refl has)
  in_round (Seen p now) outcome is has = absurd (none_given (Load (Some p) ∷ []) token given refl has)
  in_round (Renewing p now name calls end) outcome is has =
      elim (Contains-append_cases (Load (Some p) ∷ []) calls (Refresh token given) has) [
        | inl here ↦ absurd (let k = the_only (Load (Some p)) (Refresh token given) here in cc)
        | inr there ↦ (name, calls, end, Contains-push (Reading now ∷ []) (Drawn name), is.1, there)
      ]

  in_last : (r : Round T E) (outcome : Outcome T E) → IsRound is_good settings r outcome → Contains (calls_in (r ∷ [])) (Refresh token given)
      → IsOfARenewal E settings token given (events_of r)
  in_last r outcome is has =
      in_round r outcome is (subst (λ (l : List (Call T)). Contains l (Refresh token given)) (append-nil (calls_of r)) has)

  pub sending_is_of_a_renewal : (left : ℕ) (rounds : List (Round T E)) (result : Held T E) → Holds is_good settings left rounds result
      → Contains (calls_in rounds) (Refresh token given) → IsOfARenewal E settings token given (events_in settings.wait rounds)
  sending_is_of_a_renewal left [] result h has = absurd (omega (arith, has.1))
  sending_is_of_a_renewal left (r ∷ []) result (some, inl ends) has = in_last r (Ends result) ends has
  sending_is_of_a_renewal left (r ∷ []) result (some, inr last) has = in_last r (Waits result) last.1 has
  sending_is_of_a_renewal left (r ∷ next ∷ rounds) result h has =
      elim (Contains-append_cases (calls_of r) (calls_in (next ∷ rounds)) (Refresh token given) has) [
        | inl here ↦ absurd (none_given (calls_of r) token given (waits_unsent is_good settings r h.0.0 h.0.1) here)
        | inr there ↦
            let k = sending_is_of_a_renewal (left - 1) (next ∷ rounds) result h.1 there in
            let rest = events_in settings.wait (next ∷ rounds) in
            let drawn = Contains-append_right (Slept settings.wait ∷ []) rest (Drawn k.0) k.3 in
            (k.0, k.1, k.2, Contains-append_right (events_of r) (Slept settings.wait ∷ rest) (Drawn k.0) drawn, k.4, k.5)
      ]
