-- Renewals after which a keeper looks again: they sent nothing.
use Rattle.std.proofs.Common.{◌≡◌, ℕ, ◌+◌, List, [], ◌∷◌, Some, Result, refl, ap, sym, ◌∙◌, arith}
use Rattle.oauth2_shared_token.specs.declared.renewal.Phase.TheVariants as phase
use Rattle.oauth2_shared_token.specs.declared.renewal.StoredValue.{StoredValue}
use Rattle.oauth2_shared_token.specs.declared.renewal.Step.TheVariants as step
use Rattle.oauth2_shared_token.specs.declared.renewal.Turn.{Turn}
use Rattle.oauth2_shared_token.specs.Renewal.{turn_of}
use Rattle.oauth2_shared_keeper.specs.declared.held.Held.{Held}
use Rattle.oauth2_shared_keeper.specs.declared.held.Held.TheVariants as held
use Rattle.oauth2_shared_keeper.specs.declared.limits.Limits.{Limits}
use Rattle.oauth2_shared_keeper.specs.declared.outcome.Outcome.{Outcome}
use Rattle.oauth2_shared_keeper.specs.declared.outcome.Outcome.TheVariants.{Ends, Waits}
use Rattle.oauth2_shared_keeper.specs.declared.renewed.Renewed.{Renewed}
use Rattle.oauth2_shared_keeper.specs.declared.renewed.Renewed.TheVariants.{Kept, Unkept, InUse, LoggedOut, Lost}
use Rattle.oauth2_shared_keeper.specs.declared.renewed.Renewed.TheVariants.{Unanswered, Unclear, Unread, NoNextVersion}
use Rattle.oauth2_shared_keeper.specs.Call.{Call, Load, Replace, Refresh, ClientLeads, refreshes_in}
use Rattle.oauth2_shared_keeper.specs.Renewal.{AsksInTurn, first_turn, EndsWith, IsEnd, IsRenewal}
use Rattle.oauth2_shared_keeper.specs.Keeper.{after_renewal}
use Rattle.oauth2_shared_keeper.specs.private.Turns.{IfWaits}
use Rattle.oauth2_shared_keeper.proofs.Runs.{refreshes_in-append}
use Rattle.oauth2_shared_keeper.proofs.History.{state_after, unsent_over, unsent_early, is_early}

-- a client that is sent nothing stays as it is
pub client-same : {T C CE : Type 0} (refreshes : C → T → Result T CE → C → Type 0) (c d : C) (xs : List (Call T))
    → refreshes_in xs ≡ 0 → ClientLeads refreshes c xs d → c ≡ d
client-same refreshes c d [] none leads = leads
client-same refreshes c d (Load shown ∷ xs) none leads = client-same refreshes c d xs none leads
client-same refreshes c d (Replace version content done ∷ xs) none leads = client-same refreshes c d xs none leads
client-same refreshes c d (Refresh token given ∷ xs) none leads = absurd (omega arith)

module _ {T : Type 0} (name : ℕ) (calls : List (Call T)) (last : Turn T) (asks : AsksInTurn name first_turn calls last) where
  over_unsent : (other : ℕ) (token : T) → last ≡ turn_of phase.Over (step.InUse other token) → refreshes_in calls ≡ 0
  over_unsent other token is =
      unsent_over name calls last (state_after name calls last asks) (ap (λ (k : Turn T). k.phase) is)
      (λ e. let k : step.InUse other token ≡ step.End = sym (ap (λ (k : Turn T). k.step) is) ∙ e in cc)

  first_unsent : last ≡ first_turn → refreshes_in calls ≡ 0
  first_unsent is = unsent_early name calls last (state_after name calls last asks) (ap (λ (k : Turn T). is_early name k.phase) is)

  lost_unsent : (version : ℕ) (token : T) (p : StoredValue T) → EndsWith name first_turn calls (phase.Asking version token) (Load (Some p))
      → refreshes_in calls ≡ 0
  lost_unsent version token p e =
      let none = unsent_early name e.before e.turn (state_after name e.before e.turn e.asks) (ap (is_early name) e.in_phase) in
      ap refreshes_in e.is ∙ rw (refreshes_in-append e.before (Load (Some p) ∷ []), none) refl

-- what makes a keeper end its call makes it wait no more
ended : {T E : Type 0} (told seen : Held T E) → Waits seen ≡ Ends told → ⊥
ended told seen e = cc

module _ {T E : Type 0} (name : ℕ) where
  module _ (calls : List (Call T)) (last : Turn T) (asks : AsksInTurn name first_turn calls last) where
    pub waiting_unsent : (loads replacements : ℕ) (end : Renewed T E) → IsEnd name first_turn loads replacements calls last end
        → (seen : Held T E) → Waits seen ≡ after_renewal name end → refreshes_in calls ≡ 0
    waiting_unsent loads replacements (Kept new) h seen e = absurd (ended (held.Good new) seen e)
    waiting_unsent loads replacements (Unkept version new) h seen e = absurd (ended (held.Unkept name version new) seen e)
    waiting_unsent loads replacements (InUse other token) h seen e = over_unsent name calls last asks other token h
    waiting_unsent loads replacements LoggedOut h seen e = absurd (ended held.LoggedOut seen e)
    waiting_unsent loads replacements Lost (v, t, p, is, ends) seen e = lost_unsent name calls last asks v t p ends
    waiting_unsent loads replacements (Unanswered version token error) h seen e =
        absurd (ended (held.Unanswered name version token error) seen e)
    waiting_unsent loads replacements (Unclear version token) h seen e = absurd (ended (held.Unclear name version token) seen e)
    waiting_unsent loads replacements Unread h seen e = first_unsent name calls last asks h.0
    waiting_unsent loads replacements (NoNextVersion token) h seen e = absurd (ended (held.NoNextVersion token) seen e)

  -- where a keeper waits after a renewal, its client is as before
  pub unsent_if_waits : {C CE : Type 0} (refreshes : C → T → Result T CE → C → Type 0) (c d : C) (limits : Limits) (calls : List (Call T))
      (end : Renewed T E) (outcome : Outcome T E)
      → outcome ≡ after_renewal name end → ClientLeads refreshes c calls d → IsRenewal name limits calls end → IfWaits outcome (c ≡ d)
  unsent_if_waits refreshes c d limits calls end (Ends told) is leads r = tt
  unsent_if_waits refreshes c d limits calls end (Waits told) is leads r =
      client-same refreshes c d calls (waiting_unsent calls r.last r.asks limits.loads (limits.repeats + 2) end r.end told is) leads
