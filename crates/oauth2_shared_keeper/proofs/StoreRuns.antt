-- The calls of renewals over a store are those of a fleet.
use Rattle.std.proofs.Common.{◌≡◌, ◌⊎◌, inl, inr, ℕ, ◌+◌, ◌≤◌, Bool, true, false, ◌==◌, if◌then◌else◌, List, [], ◌∷◌, ◌++◌, Option, Some, None, refl, ap, sym, ◌∙◌, subst, arith}
use Rattle.std.proofs.lemmas.Bool.Decides.{eqb_tells}
use Rattle.std.proofs.lemmas.List.Elements.{Contains-append_left, Contains-push, Contains-push_cases}
use Rattle.std.specs.List.{Contains}
use Rattle.oauth2_shared_token.specs.declared.renewal.Content.{Content}
use Rattle.oauth2_shared_token.specs.declared.renewal.Content.TheVariants as content
use Rattle.oauth2_shared_token.specs.declared.renewal.Learnt.{Learnt}
use Rattle.oauth2_shared_token.specs.declared.renewal.Learnt.TheVariants as learnt
use Rattle.oauth2_shared_token.specs.declared.renewal.Phase.{Phase}
use Rattle.oauth2_shared_token.specs.declared.renewal.Phase.TheVariants as phase
use Rattle.oauth2_shared_token.specs.declared.renewal.Step.{Step}
use Rattle.oauth2_shared_token.specs.declared.renewal.Step.TheVariants as step
use Rattle.oauth2_shared_token.specs.declared.renewal.StoredValue.{StoredValue}
use Rattle.oauth2_shared_token.specs.declared.renewal.Told.{Told}
use Rattle.oauth2_shared_token.specs.declared.renewal.Told.TheVariants as told
use Rattle.oauth2_shared_token.specs.declared.renewal.Turn.{Turn}
use Rattle.oauth2_shared_token.specs.State.{Token, Stored, at_rest}
use Rattle.oauth2_shared_token.specs.Event.{SharedEvent, Asked, Marked, Sent, Given, Kept, Withdrew, GivenBack, SignedIn, Allowed, LoggedIn, LoggedOut}
use Rattle.oauth2_shared_token.specs.Run.{times_stored}
use Rattle.oauth2_shared_token.specs.Renewal.{stored_of, looked_at, read_again, sent_if, returned_if, next_turn, IsSo}
use Rattle.oauth2_shared_token.specs.Fleet as fleet
use Rattle.oauth2_shared_token.specs.Fleet.{Fleet, Request, ToMark, ToKeep, ToReturn, phase_of, Turned, Took, SignsIn, LogsIn, LogsOut, CanOccur, requests_of, after_taking, later, events_in, fleet_of, IsFleetRun, all_events}
use Rattle.oauth2_shared_token.proofs.Places.{put-other, none_in_nothing}
use Rattle.oauth2_shared_keeper.specs.Call.{Call, Load, Replace, Refresh, ToReplace, request_of, told_by}
use Rattle.oauth2_shared_keeper.specs.Renewal.{AsksInTurn, asked_again, asked_by}
use Rattle.oauth2_shared_keeper.specs.Fleets.{FleetEvent, Made, Other, calls_of, IsNoTurn, TurnsAreCalls, content_as, told_as, happenings_of, times_refreshed}
use Rattle.oauth2_shared_keeper.specs.Stores as stores
use Rattle.oauth2_shared_keeper.specs.Stores.{value, World, StoreEvent, Asks, Takes, Ends, Puts, content_put, world_with, turns_after, world_after, IsStoreRun, world_of, rests_in, times_put, refreshes_sent, calls_ended, calls_made, EachStoreHasAFleet, EachTokenOfAStoreIsSentOnce}
use Rattle.oauth2_shared_keeper.proofs.FleetFacts.{phase_as, step_as, next-as, phase_now, calls_mine, calls_theirs, each_refresh_token_is_sent_once}
use Rattle.oauth2_shared_keeper.proofs.History.{the_only}

times_stored-append : (r : List ℕ) (xs ys : List SharedEvent) → times_stored r (xs ++ ys) ≡ times_stored r xs + times_stored r ys
times_stored-append r [] ys = omega arith
times_stored-append r (Asked i v t ∷ xs) ys = times_stored-append r xs ys
times_stored-append r (Marked i v t ∷ xs) ys = times_stored-append r xs ys
times_stored-append r (Sent i v t ∷ xs) ys = times_stored-append r xs ys
times_stored-append r (Given i v new ∷ xs) ys = times_stored-append r xs ys
times_stored-append r (Kept i v new ∷ xs) ys = let k = times_stored-append r xs ys in omega arith
times_stored-append r (Withdrew i v t ∷ xs) ys = times_stored-append r xs ys
times_stored-append r (GivenBack i v t ∷ xs) ys = times_stored-append r xs ys
times_stored-append r (SignedIn i v new ∷ xs) ys = let k = times_stored-append r xs ys in omega arith
times_stored-append r (Allowed i v t ∷ xs) ys = let k = times_stored-append r xs ys in omega arith
times_stored-append r (LoggedIn v new ∷ xs) ys = let k = times_stored-append r xs ys in omega arith
times_stored-append r (LoggedOut v ∷ xs) ys = times_stored-append r xs ys

-- a step of a machine stores nothing by itself
step_stores : (r : List ℕ) (i : ℕ) (s : Step Token) (ys : List SharedEvent)
    → times_stored r (Rattle.oauth2_shared_token.specs.Renewal.events_of i s ++ ys) ≡ times_stored r ys
step_stores r i step.Look ys = refl
step_stores r i (step.Mark v t) ys = refl
step_stores r i (step.Send v t) ys = refl
step_stores r i (step.Keep v new) ys = refl
step_stores r i (step.GiveBack v t) ys = refl
step_stores r i step.Repeat ys = refl
step_stores r i (step.InUse other t) ys = refl
step_stores r i step.LoggedOut ys = refl
step_stores r i step.End ys = refl

module _ {T : Type 0} (view : T → Token) where
  -- a value as the fleet has it
  abbrev seen : StoredValue T → Stored
  seen p = stored_of (value p.version (content_as view p.content))

  -- what a renewal asks for in this turn was asked of the fleet's store
  abbrev StepAsked : List Request → ℕ → Phase T → Step T → Type 0
  StepAsked xs i p step.Look = Unit {0}
  StepAsked xs i p (step.Mark v t) = (p ≡ phase.Asking v t) × Contains xs (ToMark i v (view t))
  StepAsked xs i p (step.Send v t) = Unit {0}
  StepAsked xs i p (step.Keep v new) = (p ≡ phase.Keeping v new) × Contains xs (ToKeep i v (view new))
  StepAsked xs i p (step.GiveBack v t) = (p ≡ phase.Returning v t) × Contains xs (ToReturn i v (view t))
  StepAsked xs i p step.Repeat = Unit {0}
  StepAsked xs i p (step.InUse other t) = Unit {0}
  StepAsked xs i p step.LoggedOut = Unit {0}
  StepAsked xs i p step.End = Unit {0}

  abbrev PhaseAsked : List Request → ℕ → Phase T → Type 0
  PhaseAsked xs i phase.Looking = Unit {0}
  PhaseAsked xs i (phase.Asking v t) = Unit {0}
  PhaseAsked xs i (phase.Leaving v t) = Unit {0}
  PhaseAsked xs i (phase.Sending v) = Unit {0}
  PhaseAsked xs i (phase.Keeping v new) = Contains xs (ToKeep i v (view new))
  PhaseAsked xs i (phase.Returning v t) = Contains xs (ToReturn i v (view t))
  PhaseAsked xs i phase.Over = Unit {0}

  abbrev HasAsked : List Request → ℕ → Turn T → Type 0
  HasAsked xs i turn = StepAsked xs i turn.phase turn.step × PhaseAsked xs i turn.phase

  step_more : (xs ys : List Request) (i : ℕ) (p : Phase T) (s : Step T) → StepAsked xs i p s → StepAsked (xs ++ ys) i p s
  step_more xs ys i p step.Look h = tt
  step_more xs ys i p (step.Mark v t) h = (h.0, Contains-append_left xs ys (ToMark i v (view t)) h.1)
  step_more xs ys i p (step.Send v t) h = tt
  step_more xs ys i p (step.Keep v new) h = (h.0, Contains-append_left xs ys (ToKeep i v (view new)) h.1)
  step_more xs ys i p (step.GiveBack v t) h = (h.0, Contains-append_left xs ys (ToReturn i v (view t)) h.1)
  step_more xs ys i p step.Repeat h = tt
  step_more xs ys i p (step.InUse other t) h = tt
  step_more xs ys i p step.LoggedOut h = tt
  step_more xs ys i p step.End h = tt

  phase_more : (xs ys : List Request) (i : ℕ) (p : Phase T) → PhaseAsked xs i p → PhaseAsked (xs ++ ys) i p
  phase_more xs ys i phase.Looking h = tt
  phase_more xs ys i (phase.Asking v t) h = tt
  phase_more xs ys i (phase.Leaving v t) h = tt
  phase_more xs ys i (phase.Sending v) h = tt
  phase_more xs ys i (phase.Keeping v new) h = Contains-append_left xs ys (ToKeep i v (view new)) h
  phase_more xs ys i (phase.Returning v t) h = Contains-append_left xs ys (ToReturn i v (view t)) h
  phase_more xs ys i phase.Over h = tt

  module _ (xs : List Request) (i : ℕ) where
    -- so it is of the next turn, with what that asks
    abbrev IsNext : Turn T → Type 0
    IsNext turn = HasAsked (xs ++ requests_of i (step_as view turn.step)) i turn

    looked_next : (v : ℕ) (c : Content T) → IsNext (looked_at v c)
    looked_next v (content.AtRest t) = ((refl, Contains-push xs (ToMark i v (view t))), tt)
    looked_next v (content.Marked t other) = (tt, tt)
    looked_next v content.Empty = (tt, tt)

    sent_next : (v : ℕ) (t : T) (l : Learnt) → IsNext (sent_if v t l)
    sent_next v t learnt.Taken = (tt, tt)
    sent_next v t learnt.Lost = (tt, tt)
    sent_next v t learnt.Open = (tt, tt)

    returned_next : (v : ℕ) (t : T) (l : Learnt) → IsNext (returned_if v t l)
    returned_next v t learnt.Taken =
        let there = Contains-push xs (ToReturn i v (view t)) in ((refl, there), there)
    returned_next v t learnt.Lost = (tt, tt)
    returned_next v t learnt.Open = (tt, tt)

    next_asked : (p : Phase T) (said : Told T) → PhaseAsked xs i p → IsNext (next_turn i p said)
    next_asked phase.Looking (told.Stored s) had = looked_next s.version s.content
    next_asked phase.Looking told.Done had = (tt, tt)
    next_asked phase.Looking told.Nothing had = (tt, tt)
    next_asked phase.Looking (told.Answer new) had = (tt, tt)
    next_asked phase.Looking told.Stop had = (tt, tt)
    next_asked (phase.Asking v t) (told.Stored s) had = sent_next v t (read_again i v s)
    next_asked (phase.Asking v t) told.Done had = (tt, tt)
    next_asked (phase.Asking v t) told.Nothing had = (tt, tt)
    next_asked (phase.Asking v t) (told.Answer new) had = (tt, tt)
    next_asked (phase.Asking v t) told.Stop had = (tt, tt)
    next_asked (phase.Leaving v t) (told.Stored s) had = returned_next v t (read_again i v s)
    next_asked (phase.Leaving v t) told.Done had = returned_next v t learnt.Taken
    next_asked (phase.Leaving v t) told.Nothing had = (tt, tt)
    next_asked (phase.Leaving v t) (told.Answer new) had = (tt, tt)
    next_asked (phase.Leaving v t) told.Stop had = (tt, tt)
    next_asked (phase.Sending v) (told.Stored s) had = (tt, tt)
    next_asked (phase.Sending v) told.Done had = (tt, tt)
    next_asked (phase.Sending v) told.Nothing had = (tt, tt)
    next_asked (phase.Sending v) (told.Answer new) had =
        let there = Contains-push xs (ToKeep i v (view new)) in ((refl, there), there)
    next_asked (phase.Sending v) told.Stop had = (tt, tt)
    next_asked (phase.Keeping v new) (told.Stored s) had = (tt, tt)
    next_asked (phase.Keeping v new) told.Done had = (tt, tt)
    next_asked (phase.Keeping v new) told.Nothing had = (tt, Contains-append_left xs [] (ToKeep i v (view new)) had)
    next_asked (phase.Keeping v new) (told.Answer other) had = (tt, tt)
    next_asked (phase.Keeping v new) told.Stop had = (tt, tt)
    next_asked (phase.Returning v t) (told.Stored s) had = (tt, tt)
    next_asked (phase.Returning v t) told.Done had = (tt, tt)
    next_asked (phase.Returning v t) told.Nothing had = (tt, Contains-append_left xs [] (ToReturn i v (view t)) had)
    next_asked (phase.Returning v t) (told.Answer new) had = (tt, tt)
    next_asked (phase.Returning v t) told.Stop had = (tt, tt)
    next_asked phase.Over said had = (tt, tt)

  -- what was asked of the store was asked by a machine of the fleet
  abbrev IsAskedIn : List Request → ℕ → Content T → Type 0
  IsAskedIn xs v (content.AtRest t) =
      (i w : ℕ) × (v ≡ w + 1) × (Contains xs (ToKeep i w (view t)) ⊎ Contains xs (ToReturn i w (view t)))
  IsAskedIn xs v (content.Marked t i) = Contains xs (ToMark i v (view t))
  IsAskedIn xs v content.Empty = ⊥

  asked_more : (xs ys : List Request) (v : ℕ) (c : Content T) → IsAskedIn xs v c → IsAskedIn (xs ++ ys) v c
  asked_more xs ys v (content.AtRest t) (i, w, is, inl keeps) = (i, w, is, inl (Contains-append_left xs ys (ToKeep i w (view t)) keeps))
  asked_more xs ys v (content.AtRest t) (i, w, is, inr returns) = (i, w, is, inr (Contains-append_left xs ys (ToReturn i w (view t)) returns))
  asked_more xs ys v (content.Marked t i) h = Contains-append_left xs ys (ToMark i v (view t)) h
  asked_more xs ys v content.Empty h = absurd h

  same_asked : (xs : List Request) (v w : ℕ) (c d : Content T) → v ≡ w → c ≡ d → IsAskedIn xs v c → IsAskedIn xs w d
  same_asked xs v w c d a b h = subst (λ (n : ℕ). IsAskedIn xs n d) a (subst (λ (k : Content T). IsAskedIn xs v k) b h)

  module _ (xs : List Request) (i : ℕ) (v : ℕ) (c : Content T) where
    asked_again_in : (p : Phase T) → PhaseAsked xs i p → asked_again p ≡ Some (ToReplace v c) → IsAskedIn xs v c
    asked_again_in phase.Looking had e = absurd cc
    asked_again_in (phase.Asking w t) had e = absurd cc
    asked_again_in (phase.Leaving w t) had e = absurd cc
    asked_again_in (phase.Sending w) had e = absurd cc
    asked_again_in (phase.Keeping w new) had e = same_asked xs (w + 1) v (content.AtRest new) c (cc) (cc) (i, w, refl, inl had)
    asked_again_in (phase.Returning w t) had e = same_asked xs (w + 1) v (content.AtRest t) c (cc) (cc) (i, w, refl, inr had)
    asked_again_in phase.Over had e = absurd cc

    asked_in : (p : Phase T) (s : Step T) → StepAsked xs i p s → PhaseAsked xs i p → asked_by i p s ≡ Some (ToReplace v c) → IsAskedIn xs v c
    asked_in p step.Look had own e = absurd cc
    asked_in p (step.Mark w t) had own e = same_asked xs w v (content.Marked t i) c (cc) (cc) had.1
    asked_in p (step.Send w t) had own e = absurd cc
    asked_in p (step.Keep w new) had own e = same_asked xs (w + 1) v (content.AtRest new) c (cc) (cc) (i, w, refl, inl had.1)
    asked_in p (step.GiveBack w t) had own e = same_asked xs (w + 1) v (content.AtRest t) c (cc) (cc) (i, w, refl, inr had.1)
    asked_in p step.Repeat had own e = asked_again_in p own e
    asked_in p (step.InUse other t) had own e = absurd cc
    asked_in p step.LoggedOut had own e = absurd cc
    asked_in p step.End had own e = absurd cc

  -- what a call tells is so in the fleet
  module _ (past : List (StoredValue T)) (all : List Stored) (has : (p : StoredValue T) → Contains past p → Contains all (seen p))
      (xs : List Request) (i : ℕ) where
    again_done : (p : Phase T) (v : ℕ) (c : Content T) → asked_again p ≡ Some (ToReplace v c) → IsSo all i (phase_as view p) told.Done
    again_done phase.Looking v c e = tt
    again_done (phase.Asking w t) v c e = absurd cc
    again_done (phase.Leaving w t) v c e = absurd cc
    again_done (phase.Sending w) v c e = tt
    again_done (phase.Keeping w new) v c e = tt
    again_done (phase.Returning w t) v c e = tt
    again_done phase.Over v c e = tt

    done_so : (p : Phase T) (s : Step T) (v : ℕ) (c : Content T) → StepAsked xs i p s → asked_by i p s ≡ Some (ToReplace v c)
        → Contains past (value (v + 1) c) → IsSo all i (phase_as view p) told.Done
    done_so p step.Look v c had e so = absurd cc
    done_so p (step.Mark w t) v c had e so =
        let a : w ≡ v = cc in
        let b : content.Marked t i ≡ c = cc in
        let there : Contains past (value (w + 1) (content.Marked t i)) =
        subst (λ (n : ℕ). Contains past (value (n + 1) (content.Marked t i))) (sym a) (subst (λ (k : Content T). Contains past (value (v + 1) k)) (sym b) so) in
        subst (λ (q : Phase T). IsSo all i (phase_as view q) told.Done) (sym had.0) (has (value (w + 1) (content.Marked t i)) there)
    done_so p (step.Send w t) v c had e so = absurd cc
    done_so p (step.Keep w new) v c had e so = subst (λ (q : Phase T). IsSo all i (phase_as view q) told.Done) (sym had.0) tt
    done_so p (step.GiveBack w t) v c had e so = subst (λ (q : Phase T). IsSo all i (phase_as view q) told.Done) (sym had.0) tt
    done_so p step.Repeat v c had e so = again_done p v c e
    done_so p (step.InUse other t) v c had e so = absurd cc
    done_so p step.LoggedOut v c had e so = absurd cc
    done_so p step.End v c had e so = absurd cc

    told_so : (p : Phase T) (s : Step T) (call : Call T) → StepAsked xs i p s → asked_by i p s ≡ Some (request_of call)
        → stores.TellsTruth past call → IsSo all i (phase_as view p) (told_as view (told_by call))
    told_so p s (Load None) had e so = tt
    told_so p s (Load (Some q)) had e so = has q so
    told_so p s (Replace v c true) had e so = done_so p s v c had e so
    told_so p s (Replace v c false) had e so = tt
    told_so p s (Refresh t None) had e so = tt
    told_so p s (Refresh t (Some new)) had e so = tt

  -- a fleet follows a store with its renewals
  record Follows (f : Fleet) (w : World T) : Type 0 where
    now : f.store ≡ seen w.now
    held : Contains w.past w.now
    past : (p : StoredValue T) → Contains w.past p → Contains f.past (seen p)
    phases : (i : ℕ) → phase_of f i ≡ phase_as view (w.turns i).phase
    wants : (i : ℕ) → HasAsked f.requests i (w.turns i)
    asked : (v : ℕ) (c : Content T) → Contains w.asked (v, c) → IsAskedIn f.requests v c

  past_more : (w : World T) (all : List Stored) (q p : StoredValue T) → ((p : StoredValue T) → Contains w.past p → Contains all (seen p))
      → Contains (w.past ++ q ∷ []) p → Contains (all ++ seen q ∷ []) (seen p)
  past_more w all q p has there =
      elim (Contains-push_cases w.past q p there) [
        | inl old ↦ Contains-append_left all (seen q ∷ []) (seen p) (has p old)
        | inr same ↦ subst (λ (x : StoredValue T). Contains (all ++ seen q ∷ []) (seen x)) same (Contains-push all (seen q))
      ]

  follows_put : (f : Fleet) (w : World T) (v : ℕ) (c : Content T) → Follows f w → Follows (after_taking f (seen (value (v + 1) c))) (world_with w v c)
  follows_put f w v c h = record {
    now = refl;
    held = Contains-push w.past (value (v + 1) c);
    past = λ p there. past_more w f.past (value (v + 1) c) p h.past there;
    phases = h.phases;
    wants = h.wants;
    asked = h.asked;
  }

  asked_now : (f : Fleet) (w : World T) (i v : ℕ) (c : Content T) → Follows f w → asked_by i (w.turns i).phase (w.turns i).step ≡ Some (ToReplace v c)
      → (n : ℕ) (d : Content T) → Contains (w.asked ++ (v, c) ∷ []) (n, d) → IsAskedIn f.requests n d
  asked_now f w i v c h e n d there =
      elim (Contains-push_cases w.asked (v, c) (n, d) there) [
        | inl old ↦ h.asked n d old
        | inr same ↦ (
            let a : v ≡ n = ap (λ (x : ℕ × Content T). x.0) same in
            let b : c ≡ d = ap (λ (x : ℕ × Content T). x.1) same in
            same_asked f.requests v n c d a b (asked_in f.requests i v c (w.turns i).phase (w.turns i).step (h.wants i).0 (h.wants i).1 e))
      ]

  follows_asked : (f : Fleet) (w : World T) (i v : ℕ) (c : Content T) → Follows f w → asked_by i (w.turns i).phase (w.turns i).step ≡ Some (ToReplace v c)
      → Follows f (world_after w (Asks i v c))
  follows_asked f w i v c h e = record {
    now = h.now;
    held = h.held;
    past = h.past;
    phases = h.phases;
    wants = h.wants;
    asked = asked_now f w i v c h e;
  }

  turned-same : (turns : ℕ → Turn T) (i : ℕ) (turn : Turn T) (j : ℕ) → (j == i) ≡ true → turns_after turns i turn j ≡ turn
  turned-same turns i turn j e = ap (λ (b : Bool). if b then turn else turns j) e

  turned-other : (turns : ℕ → Turn T) (i : ℕ) (turn : Turn T) (j : ℕ) → (j == i) ≡ false → turns_after turns i turn j ≡ turns j
  turned-other turns i turn j e = ap (λ (b : Bool). if b then turn else turns j) e

  module _ (f : Fleet) (w : World T) (i : ℕ) (call : Call T) (h : Follows f w) where
    abbrev said : Told T
    said = told_by call

    abbrev next : Turn T
    next = next_turn i (w.turns i).phase said

    abbrev then_fleet : Fleet
    then_fleet = later f (Turned i (told_as view said))

    -- what the fleet's machine asks is what the renewal asks
    same_step : (next_turn i (phase_of f i) (told_as view said)).step ≡ step_as view next.step
    same_step =
        ap (λ (q : Phase Token). (next_turn i q (told_as view said)).step) (h.phases i)
        ∙ ap (λ (k : Turn Token). k.step) (next-as view i (w.turns i).phase said)

    abbrev IsPhased : ℕ → Type 0
    IsPhased j = phase_of then_fleet j ≡ phase_as view (turns_after w.turns i next j).phase

    phases_then : (j : ℕ) → IsPhased j
    phases_then j =
        elim (eqb_tells j i) [
          | inl (e, same) ↦
              subst IsPhased (sym same)
              (phase_now view i f (w.turns i) said (h.phases i)
              ∙ sym (ap (λ (k : Turn T). phase_as view k.phase) (turned-same w.turns i next i (subst (λ (m : ℕ). (m == i) ≡ true) same e))))
          | inr (e, other) ↦
              put-other phase.Looking f.phases i j (next_turn i (phase_of f i) (told_as view said)).phase other ∙ h.phases j
              ∙ sym (ap (λ (k : Turn T). phase_as view k.phase) (turned-other w.turns i next j e))
        ]

    wants_then : (j : ℕ) → HasAsked then_fleet.requests j (turns_after w.turns i next j)
    wants_then j =
        elim (eqb_tells j i) [
          | inl (e, same) ↦
              subst (λ (m : ℕ). HasAsked then_fleet.requests m (turns_after w.turns i next m)) (sym same)
              (subst (λ (k : Turn T). HasAsked then_fleet.requests i k) (sym (turned-same w.turns i next i (subst (λ (m : ℕ). (m == i) ≡ true) same e)))
              (subst (λ (s : Step Token). HasAsked (f.requests ++ requests_of i s) i next) (sym same_step)
              (next_asked f.requests i (w.turns i).phase said (h.wants i).1)))
          | inr (e, other) ↦ (
              let ys = requests_of i (next_turn i (phase_of f i) (told_as view said)).step in
              subst (λ (k : Turn T). HasAsked then_fleet.requests j k) (sym (turned-other w.turns i next j e))
              (step_more f.requests ys j (w.turns j).phase (w.turns j).step (h.wants j).0, phase_more f.requests ys j (w.turns j).phase (h.wants j).1))
        ]

    follows_turn : Follows then_fleet (world_after w (Ends i call))
    follows_turn = record {
      now = h.now;
      held = h.held;
      past = h.past;
      phases = phases_then;
      wants = wants_then;
      asked = λ v c there. asked_more f.requests (requests_of i (next_turn i (phase_of f i) (told_as view said)).step) v c (h.asked v c there);
    }

  -- what the store does is something that happens in the fleet
  record IsDone (f : Fleet) (v : ℕ) (c : Content T) : Type 0 where
    it : fleet.Happening
    can : CanOccur f it
    leads : later f it ≡ after_taking f (seen (value (v + 1) c))
    quiet : IsNoTurn it
    counts : (r : List ℕ) → times_stored r (events_in f it) ≤ rests_in view r c

  takes : (f : Fleet) (v : ℕ) (c : Content T) → f.store.version ≡ v → IsAskedIn f.requests v c → IsDone f v c
  takes f v (content.AtRest t) fits (i, w, is, inl keeps) =
      let e : w + 2 ≡ v + 1 = omega (arith, is) in
      record {
        it = Took (ToKeep i w (view t));
        can = (keeps, fits ∙ is);
        leads = ap (λ (n : ℕ). after_taking f (at_rest n (view t))) e;
        quiet = tt;
        counts = λ r. omega arith;
      }
  takes f v (content.AtRest t) fits (i, w, is, inr returns) =
      let e : w + 2 ≡ v + 1 = omega (arith, is) in
      record {
        it = Took (ToReturn i w (view t));
        can = (returns, fits ∙ is);
        leads = ap (λ (n : ℕ). after_taking f (at_rest n (view t))) e;
        quiet = tt;
        counts = λ r. omega arith;
      }
  takes f v (content.Marked t i) fits marks = record {
    it = Took (ToMark i v (view t));
    can = (marks, fits);
    leads = refl;
    quiet = tt;
    counts = λ r. omega arith;
  }
  takes f v content.Empty fits none = absurd none

  -- somebody else puts a token in the place of this
  puts : (f : Fleet) (v : ℕ) (t : T) (c : Content T) → f.store.version ≡ v → Contains f.past (seen (value v c)) → IsDone f v (content.AtRest t)
  puts f v t (content.AtRest old) fits there = record {
    it = LogsIn v (view t);
    can = (inl (view old, there), fits);
    leads = refl;
    quiet = tt;
    counts = λ r. omega arith;
  }
  puts f v t (content.Marked old i) fits there = record {
    it = SignsIn i v (view t);
    can = ((view old, there), fits);
    leads = refl;
    quiet = tt;
    counts = λ r. omega arith;
  }
  puts f v t content.Empty fits there = record {
    it = LogsIn v (view t);
    can = (inr there, fits);
    leads = refl;
    quiet = tt;
    counts = λ r. omega arith;
  }

  puts_some : (f : Fleet) (w : World T) (v : ℕ) (token : Option T) → Follows f w → w.now.version ≡ v → IsDone f v (content_put token)
  puts_some f w v (Some t) h fits =
      let same : f.store.version ≡ v = ap (λ (s : Stored). s.version) h.now ∙ fits in
      puts f v t w.now.content same
      (subst (λ (n : ℕ). Contains f.past (seen (value n w.now.content))) fits (h.past w.now h.held))
  puts_some f w v None h fits =
      let same : f.store.version ≡ v = ap (λ (s : Stored). s.version) h.now ∙ fits in
      record {
        it = LogsOut v;
        can = ((seen w.now, h.past w.now h.held, fits), same);
        leads = refl;
        quiet = tt;
        counts = λ r. omega arith;
      }

  -- a fleet does all that happens
  record IsFollowed (f : Fleet) (w : World T) (hs : List (StoreEvent T)) : Type 0 where
    pub events : List (FleetEvent T)
    pub turns : TurnsAreCalls events
    pub run : IsFleetRun f (happenings_of view events)
    pub asks : (i : ℕ) → (last : Turn T) × AsksInTurn i (w.turns i) (calls_of i events) last
    pub same : calls_made events ≡ calls_ended hs
    pub sent : (r : List ℕ) → times_refreshed view r events ≡ refreshes_sent view r hs
    pub put : (r : List ℕ) → times_stored r (all_events f (happenings_of view events)) ≤ times_put view r hs

  after_done : (f : Fleet) (w : World T) (v : ℕ) (c : Content T) (rest : List (StoreEvent T)) (done : IsDone f v c)
      (k : IsFollowed (after_taking f (seen (value (v + 1) c))) (world_with w v c) rest) (r : List ℕ)
      → times_stored r (all_events f (done.it ∷ happenings_of view k.events)) ≤ rests_in view r c + times_put view r rest
  after_done f w v c rest done k r =
      let sum = times_stored-append r (events_in f done.it) (all_events (later f done.it) (happenings_of view k.events)) in
      let those = subst (λ (g : Fleet). times_stored r (all_events g (happenings_of view k.events)) ≤ times_put view r rest) (sym done.leads) (k.put r) in
      let this = done.counts r in
      omega (arith, sum, those, this)

  follow : (hs : List (StoreEvent T)) (f : Fleet) (w : World T) → Follows f w → IsStoreRun w hs → IsFollowed f w hs
  follow [] f w h run = record {
    events = [];
    turns = tt;
    run = tt;
    asks = λ i. (w.turns i, refl);
    same = refl;
    sent = λ r. refl;
    put = λ r. omega arith;
  }
  follow (Asks i v c ∷ rest) f w h run =
      let k = follow rest f (world_after w (Asks i v c)) (follows_asked f w i v c h run.0) run.1 in
      record { events = k.events; turns = k.turns; run = k.run; asks = k.asks; same = k.same; sent = k.sent; put = k.put }
  follow (Takes v c ∷ rest) f w h run =
      let fits : f.store.version ≡ v = ap (λ (s : Stored). s.version) h.now ∙ run.0.1 in
      let done = takes f v c fits (h.asked v c run.0.0) in
      let k = follow rest (after_taking f (seen (value (v + 1) c))) (world_with w v c) (follows_put f w v c h) run.1 in
      record {
        events = Other done.it ∷ k.events;
        turns = (done.quiet, k.turns);
        run = (done.can, subst (λ (g : Fleet). IsFleetRun g (happenings_of view k.events)) (sym done.leads) k.run);
        asks = k.asks;
        same = k.same;
        sent = k.sent;
        put = λ r. after_done f w v c rest done k r;
      }
  follow (Puts v token ∷ rest) f w h run =
      let done = puts_some f w v token h run.0 in
      let k = follow rest (after_taking f (seen (value (v + 1) (content_put token)))) (world_with w v (content_put token)) (follows_put f w v (content_put token) h) run.1 in
      record {
        events = Other done.it ∷ k.events;
        turns = (done.quiet, k.turns);
        run = (done.can, subst (λ (g : Fleet). IsFleetRun g (happenings_of view k.events)) (sym done.leads) k.run);
        asks = k.asks;
        same = k.same;
        sent = k.sent;
        put = λ r. after_done f w v (content_put token) rest done k r;
      }
  follow (Ends i call ∷ rest) f w h run =
      let k = follow rest (then_fleet f w i call h) (world_after w (Ends i call)) (follows_turn f w i call h) run.1 in
      let so = told_so w.past f.past h.past f.requests i (w.turns i).phase (w.turns i).step call (h.wants i).0 run.0.0 run.0.1 in
      record {
        events = Made i call ∷ k.events;
        turns = k.turns;
        run = (subst (λ (q : Phase Token). IsSo f.past i q (told_as view (told_by call))) (sym (h.phases i)) so, k.run);
        asks = λ j. asks_made w i call k.events run.0.0 j (k.asks j);
        same = ap (λ (l : List (ℕ × Call T)). (i, call) ∷ l) k.same;
        sent = λ r. let e = k.sent r in omega arith;
        put = λ r.
            let e = step_stores r i (next_turn i (phase_of f i) (told_as view (told_by call))).step (all_events (then_fleet f w i call h) (happenings_of view k.events)) in
            let those = k.put r in
            omega (arith, e, those);
      }
    where
      asks_made : (w : World T) (i : ℕ) (call : Call T) (events : List (FleetEvent T)) → asked_by i (w.turns i).phase (w.turns i).step ≡ Some (request_of call)
          → (j : ℕ) → ((last : Turn T) × AsksInTurn j (turns_after w.turns i (next_turn i (w.turns i).phase (told_by call)) j) (calls_of j events) last)
          → (last : Turn T) × AsksInTurn j (w.turns j) (calls_of j (Made i call ∷ events)) last
      asks_made w i call events asked j (last, asks) =
          elim (eqb_tells j i) [
            | inl (e, same) ↦ (
                let next : Turn T = next_turn i (w.turns i).phase (told_by call) in
                let on = subst (λ (k : Turn T). AsksInTurn j k (calls_of j events) last) (turned-same w.turns i next j e) asks in
                let own = subst (λ (m : ℕ). AsksInTurn m next (calls_of m events) last) same on in
                let mine = calls_mine view i i call events (subst (λ (m : ℕ). (m == i) ≡ true) same e) in (
                  last,
                  subst (λ (m : ℕ). AsksInTurn m (w.turns m) (calls_of m (Made i call ∷ events)) last) (sym same)
                      (subst (λ (l : List (Call T)). AsksInTurn i (w.turns i) l last) (sym mine) (asked, own)),
                ))
            | inr (e, other) ↦ (
                let next : Turn T = next_turn i (w.turns i).phase (told_by call) in
                let on = subst (λ (k : Turn T). AsksInTurn j k (calls_of j events) last) (turned-other w.turns i next j e) asks in
                (last, subst (λ (l : List (Call T)). AsksInTurn j (w.turns j) l last) (sym (calls_theirs view j i call events e)) on))
          ]

  begins : (start : T) → Follows (fleet_of (view start)) (world_of start)
  begins start = record {
    now = refl;
    held = Contains-push [] (value 0 (content.AtRest start));
    past = λ p there. subst (λ (x : StoredValue T). Contains ((seen (value 0 (content.AtRest start))) ∷ []) (seen x))
        (the_only (value 0 (content.AtRest start)) p there) (Contains-push [] (seen (value 0 (content.AtRest start))));
    phases = λ i. refl;
    wants = λ i. (tt, tt);
    asked = λ v c there. absurd (none_in_nothing (v, c) there);
  }

pub each_store_has_a_fleet : (T : Type 0) → EachStoreHasAFleet T
each_store_has_a_fleet T view start happenings run =
    let k = follow view happenings (fleet_of (view start)) (world_of start) (begins view start) run in
    (k.events, record { renewals = k.asks; turns = k.turns; run = k.run }, k.same)

pub each_token_of_a_store_is_sent_once : (T : Type 0) → EachTokenOfAStoreIsSentOnce T
each_token_of_a_store_is_sent_once T view start happenings r run once =
    let k = follow view happenings (fleet_of (view start)) (world_of start) (begins view start) run in
    let few = k.put r in
    let sent = each_refresh_token_is_sent_once T view (view start) k.events r (record { renewals = k.asks; turns = k.turns; run = k.run })
    (omega (arith, once, few)) in
    let same = k.sent r in
    omega (arith, sent, same)
