-- What happens in a fleet makes events that can happen.
use Rattle.std.proofs.Common.{◌≡◌, ◌≢◌, ℕ, ◌+◌, ◌<◌, List, [], ◌∷◌, ◌++◌, get_or, Option, Some, None, refl, ap, sym, subst, ◌∙◌, arith, ◌⊎◌, inl, inr}
use Rattle.std.proofs.lemmas.Bool.{cases_eq}
use Rattle.std.proofs.lemmas.List.{append-nil}
use Rattle.std.specs.List.{Contains}
use Rattle.std.proofs.lemmas.List.Elements.{Contains-append_cases}
use Rattle.oauth2_shared_token.specs.declared.renewal.Content.{Content}
use Rattle.oauth2_shared_token.specs.declared.renewal.Content.TheVariants as content
use Rattle.oauth2_shared_token.specs.declared.renewal.Learnt.{Learnt}
use Rattle.oauth2_shared_token.specs.declared.renewal.Learnt.TheVariants as learnt
use Rattle.oauth2_shared_token.specs.declared.renewal.Phase.{Phase}
use Rattle.oauth2_shared_token.specs.declared.renewal.Phase.TheVariants as phase
use Rattle.oauth2_shared_token.specs.declared.renewal.Told.{Told}
use Rattle.oauth2_shared_token.specs.declared.renewal.Told.TheVariants as told
use Rattle.oauth2_shared_token.specs.declared.renewal.Step.{Step}
use Rattle.oauth2_shared_token.specs.declared.renewal.Step.TheVariants as step
use Rattle.oauth2_shared_token.specs.State.{Token, token_in, Stored, at_rest, in_use, empty, Stage, NotBegun, Asking, Marking, Sending, Holding, Returning, Done, put, Shared, stage_of, begin}
use Rattle.oauth2_shared_token.specs.Event.{SharedEvent, Asked, Marked, Sent, Given, Kept, Withdrew, GivenBack, SignedIn, Allowed, LoggedIn, LoggedOut, CanHappen, Fits, WasMarked, WasFree, WasStored, with_stored, gone_on, after}
use Rattle.oauth2_shared_token.specs.Run.{IsRun, at_last}
use Rattle.oauth2_shared_token.specs.Renewal.{turn_of, looked_at, read_again, sent_if, returned_if, again_in, stored_of, Knows, IsSo, IsOfOthers, events_of, next_turn}
use Rattle.oauth2_shared_token.specs.Fleet.{Request, ToMark, ToKeep, ToReturn, Fleet, phase_of, Happening, Turned, Took, SignsIn, Allows, LogsIn, LogsOut, CanOccur, after_turn, after_taking, later, events_in, fleet_of, IsFleetRun, fleet_at_last, all_events, handed_out, EachFleetRuns, EachFleetSendsOnce, EachHandedOutWasStored}
use Rattle.oauth2_shared_token.proofs.Places.{put-same, put-other, only_one, none_in_nothing}
use Rattle.oauth2_shared_token.proofs.Lists.{run-append, at_last-append}
use Rattle.oauth2_shared_token.proofs.Loads.{each_read_was_stored}
use Rattle.oauth2_shared_token.proofs.Sendings.{each_is_sent_at_most_once}
use Rattle.oauth2_shared_token.proofs.Steps.{MarksAreTaken, taken_after, taken_begin, step_can_happen}
use Rattle.oauth2_shared_token.proofs.Known.{step_is_known, what_is_known_stays}

-- who asked for it, at which stage that is waited for, and the last version that fits
abbrev pub asker : Request → ℕ
asker (ToMark i version token) = i
asker (ToKeep i version new) = i
asker (ToReturn i version token) = i

abbrev pub waiting : Request → Stage
waiting (ToMark i version token) = Asking version token
waiting (ToKeep i version new) = Holding version new
waiting (ToReturn i version token) = Returning version token

abbrev pub last : Request → ℕ
last (ToMark i version token) = version
last (ToKeep i version new) = version + 1
last (ToReturn i version token) = version + 1

-- who asked waits for it still, or the store is past what was asked
abbrev pub IsOpen : Shared → Request → Type 0
IsOpen s r = (stage_of s (asker r) ≡ waiting r) ⊎ (last r < s.store.version)

-- a stage at which something is waited for, and the last version that fits
abbrev waited_at : Stage → Option ℕ
waited_at NotBegun = None
waited_at (Asking version token) = Some version
waited_at (Marking version token) = None
waited_at (Sending version) = None
waited_at (Holding version new) = Some (version + 1)
waited_at (Returning version token) = Some (version + 1)
waited_at Done = None

waits_at : (r : Request) → waited_at (waiting r) ≡ Some (last r)
waits_at (ToMark i version token) = refl
waits_at (ToKeep i version new) = refl
waits_at (ToReturn i version token) = refl

-- a renewal gets further: who waits waits still, or its stage was this one
still_waits : (s : Shared) (j : ℕ) (x y : Stage) (r : Request) → stage_of s j ≡ y → stage_of s (asker r) ≡ waiting r → (get_or (put NotBegun s.renewals j x) (asker r) NotBegun ≡ waiting r) ⊎ (waited_at y ≡ Some (last r))
still_waits s j x y r was waits =
    elim (cases_eq (asker r) j) [
      | inl same ↦ inr (ap waited_at (sym was ∙ ap (λ (k : ℕ). stage_of s k) (sym same) ∙ waits) ∙ waits_at r)
      | inr ne ↦ inl (put-other NotBegun s.renewals j (asker r) x ne ∙ waits)
    ]

-- nothing was waited for
open_further : (s : Shared) (j : ℕ) (x y : Stage) (r : Request) → waited_at y ≡ None → stage_of s j ≡ y → IsOpen s r → IsOpen (gone_on s j x) r
open_further s j x y r none was (inr beyond) = inr beyond
open_further s j x y r none was (inl waits) =
    elim (still_waits s j x y r was waits) [
      | inl still ↦ inl still
      | inr here ↦ absurd (let e : None ≡ Some (last r) = sym none ∙ here in cc)
    ]

-- the store took what was waited for
open_taken : (s : Shared) (new : Stored) (j : ℕ) (x y : Stage) (at : ℕ) (r : Request) → waited_at y ≡ Some at → s.store.version ≡ at → new.version ≡ at + 1 → stage_of s j ≡ y → IsOpen s r → IsOpen (gone_on (with_stored s new) j x) r
open_taken s new j x y at r some fits next was (inr beyond) = inr (omega (arith, beyond, fits, next))
open_taken s new j x y at r some fits next was (inl waits) =
    elim (still_waits s j x y r was waits) [
      | inl still ↦ inl still
      | inr here ↦ (
          let e : Some at ≡ Some (last r) = sym some ∙ here in
          let same : at ≡ last r = cc in
          inr (omega (arith, same, next)))
    ]

-- the store took what a caller asked
open_replaced : (s : Shared) (new : Stored) (version : ℕ) (r : Request) → s.store.version ≡ version → new.version ≡ version + 1 → IsOpen s r → IsOpen (with_stored s new) r
open_replaced s new version r fits next (inl waits) = inl waits
open_replaced s new version r fits next (inr beyond) = inr (omega (arith, beyond, fits, next))

open_after : (s : Shared) (event : SharedEvent) (r : Request) → CanHappen s event → IsOpen s r → IsOpen (after s event) r
open_after s (Asked j v t) r can h = open_further s j (Asking v t) NotBegun r refl can.0 h
open_after s (Marked j v t) r can h = open_taken s (in_use (v + 1) t j) j (Marking v t) (Asking v t) v r refl can.1 refl can.0 h
open_after s (Sent j v t) r can h = open_further s j (Sending v) (Marking v t) r refl can h
open_after s (Given j v n) r can h = open_further s j (Holding v n) (Sending v) r refl can h
open_after s (Kept j v n) r can h = open_taken s (at_rest (v + 2) n) j Done (Holding v n) (v + 1) r refl can.1 (omega arith) can.0 h
open_after s (Withdrew j v t) r can h = open_further s j (Returning v t) (Marking v t) r refl can h
open_after s (GivenBack j v t) r can h = open_taken s (at_rest (v + 2) t) j Done (Returning v t) (v + 1) r refl can.1 (omega arith) can.0 h
open_after s (SignedIn j v n) r can h = open_replaced s (at_rest (v + 1) n) v r can.1 refl h
open_after s (Allowed j v t) r can h = open_replaced s (at_rest (v + 1) t) v r can.1 refl h
open_after s (LoggedIn v n) r can h = open_replaced s (at_rest (v + 1) n) v r can.1 refl h
open_after s (LoggedOut v) r can h = open_replaced s (empty (v + 1)) v r can.1 refl h

-- what the fleet has is what the events have made
pub record Agrees (f : Fleet) (s : Shared) : Type 0 where
  pub store : f.store ≡ s.store
  pub past : f.past ≡ s.past
  pub knows : (i : ℕ) → Knows s i (phase_of f i)
  pub asked : (r : Request) → Contains f.requests r → IsOpen s r
  pub taken : MarksAreTaken s

module _ (f : Fleet) (s : Shared) (a : Agrees f s) where
  -- the store takes something by an event that is no renewal's own
  agrees_taken : (event : SharedEvent) (new : Stored) → CanHappen s event → ((i : ℕ) → IsOfOthers i event) → new ≡ (after s event).store → s.past ++ new ∷ [] ≡ (after s event).past → Agrees (after_taking f new) (after s event)
  agrees_taken event new can others store past =
      record {
        store = store;
        past = ap (λ (xs : List Stored). xs ++ new ∷ []) a.past ∙ past;
        knows = λ i. what_is_known_stays s i (phase_of f i) event (a.knows i) can (others i);
        asked = λ r h. open_after s event r can (a.asked r h);
        taken = taken_after s event a.taken can;
      }

  -- what all machines know, after one has got further
  knows_put : (t : Shared) (i : ℕ) (p : Phase Token) → Knows t i p → ((j : ℕ) → j ≢ i → Knows t j (phase_of f j)) → (j : ℕ) → Knows t j (get_or (put phase.Looking f.phases i p) j phase.Looking)
  knows_put t i p here others j =
      elim (cases_eq j i) [
        | inl same ↦
            let is : get_or (put phase.Looking f.phases i p) j phase.Looking ≡ p = rw same (put-same phase.Looking f.phases i p) in
            subst (λ (q : Phase Token). Knows t j q) (sym is) (subst (λ (k : ℕ). Knows t k p) (sym same) here)
        | inr ne ↦ subst (λ (q : Phase Token). Knows t j q) (sym (put-other phase.Looking f.phases i j p ne)) (others j ne)
      ]

  -- a turn that makes no event
  agrees_silent : (i : ℕ) (p : Phase Token) → Knows s i p → Agrees (record { store = f.store; past = f.past; phases = put phase.Looking f.phases i p; requests = f.requests ++ [] }) s
  agrees_silent i p known =
      record {
        store = a.store;
        past = a.past;
        knows = knows_put s i p known (λ j ne. a.knows j);
        asked = λ r h. a.asked r (subst (λ (xs : List Request). Contains xs r) (append-nil f.requests) h);
        taken = a.taken;
      }

  -- a turn that makes an event and asks nothing of the store, or asks one thing
  agrees_turned : (i : ℕ) (p : Phase Token) (event : SharedEvent) (requests : List Request) → CanHappen s event → Knows (after s event) i p → ((j : ℕ) → j ≢ i → IsOfOthers j event) → s.store ≡ (after s event).store → s.past ≡ (after s event).past → ((r : Request) → Contains requests r → IsOpen (after s event) r) → Agrees (record { store = f.store; past = f.past; phases = put phase.Looking f.phases i p; requests = f.requests ++ requests }) (after s event)
  agrees_turned i p event requests can known others store past new =
      record {
        store = a.store ∙ store;
        past = a.past ∙ past;
        knows = knows_put (after s event) i p known (λ j ne. what_is_known_stays s j (phase_of f j) event (a.knows j) can (others j ne));
        asked = λ r h. elim (Contains-append_cases f.requests requests r h) [
          | inl before ↦ open_after s event r can (a.asked r before)
          | inr here ↦ new r here
        ];
        taken = taken_after s event a.taken can;
      }

  the_only : {A : Type 0} (x y : A) → Contains (x ∷ []) y → y ≡ x
  the_only {A} x y h = only_one x y h.0 h.1 h.2

  agrees_step : (i : ℕ) (p : Phase Token) (step : Step Token) → IsRun s (events_of i step) → Knows (at_last s (events_of i step)) i p → Agrees (after_turn f i (turn_of p step)) (at_last s (events_of i step))
  agrees_step i p step.Look run known = agrees_silent i p known
  agrees_step i p (step.Mark version token) run known =
      agrees_turned i p (Asked i version token) (ToMark i version token ∷ []) run.0 known (λ j ne. ne) refl refl (λ r h.
      let is : r ≡ ToMark i version token = the_only (ToMark i version token) r h in
      subst (IsOpen (after s (Asked i version token))) (sym is) (inl (put-same NotBegun s.renewals i (Asking version token))))
  agrees_step i p (step.Send version token) run known =
      agrees_turned i p (Sent i version token) [] run.0 known (λ j ne. ne) refl refl (λ r h. absurd (none_in_nothing r h))
  agrees_step i p (step.Keep version new) run known =
      agrees_turned i p (Given i version new) (ToKeep i version new ∷ []) run.0 known (λ j ne. ne) refl refl (λ r h.
      let is : r ≡ ToKeep i version new = the_only (ToKeep i version new) r h in
      subst (IsOpen (after s (Given i version new))) (sym is) (inl (put-same NotBegun s.renewals i (Holding version new))))
  agrees_step i p (step.GiveBack version token) run known =
      agrees_turned i p (Withdrew i version token) (ToReturn i version token ∷ []) run.0 known (λ j ne. ne) refl refl (λ r h.
      let is : r ≡ ToReturn i version token = the_only (ToReturn i version token) r h in
      subst (IsOpen (after s (Withdrew i version token))) (sym is) (inl (put-same NotBegun s.renewals i (Returning version token))))
  agrees_step i p step.Repeat run known = agrees_silent i p known
  agrees_step i p (step.InUse other token) run known = agrees_silent i p known
  agrees_step i p step.LoggedOut run known = agrees_silent i p known
  agrees_step i p step.End run known = agrees_silent i p known

  -- who asked for what fits waits for it still
  waits_still : (r : Request) → Contains f.requests r → Fits f.store (last r) → stage_of s (asker r) ≡ waiting r
  waits_still r h fits =
      elim (a.asked r h) [
        | inl waits ↦ waits
        | inr beyond ↦ absurd (let at : s.store.version ≡ last r = sym (ap (λ (p : Stored). p.version) a.store) ∙ fits in omega (arith, beyond, at))
      ]

  fits_still : (version : ℕ) → Fits f.store version → Fits s.store version
  fits_still version fits = sym (ap (λ (p : Stored). p.version) a.store) ∙ fits

  happens : (h : Happening) → CanOccur f h → IsRun s (events_in f h) × Agrees (later f h) (at_last s (events_in f h))
  happens (Turned i told) can =
      let so : IsSo s.past i (phase_of f i) told = subst (λ (xs : List Stored). IsSo xs i (phase_of f i) told) a.past can in
      let run : IsRun s (events_of i (next_turn i (phase_of f i) told).step) = step_can_happen s i (phase_of f i) told a.taken (a.knows i) so in
      (run, agrees_step i (next_turn i (phase_of f i) told).phase (next_turn i (phase_of f i) told).step run (step_is_known s i (phase_of f i) told (a.knows i)))
  happens (Took (ToMark i version token)) can =
      let this : CanHappen s (Marked i version token) = (waits_still (ToMark i version token) can.0 can.1, fits_still version can.1) in
      ((this, tt), agrees_taken (Marked i version token) (in_use (version + 1) token i) this (λ j. tt) refl refl)
  happens (Took (ToKeep i version new)) can =
      let this : CanHappen s (Kept i version new) = (waits_still (ToKeep i version new) can.0 can.1, fits_still (version + 1) can.1) in
      ((this, tt), agrees_taken (Kept i version new) (at_rest (version + 2) new) this (λ j. tt) refl refl)
  happens (Took (ToReturn i version token)) can =
      let this : CanHappen s (GivenBack i version token) = (waits_still (ToReturn i version token) can.0 can.1, fits_still (version + 1) can.1) in
      ((this, tt), agrees_taken (GivenBack i version token) (at_rest (version + 2) token) this (λ j. tt) refl refl)
  happens (SignsIn i version new) can =
      let this : CanHappen s (SignedIn i version new) = (subst (λ (xs : List Stored). WasMarked xs version i) a.past can.0, fits_still version can.1) in
      ((this, tt), agrees_taken (SignedIn i version new) (at_rest (version + 1) new) this (λ j. tt) refl refl)
  happens (Allows i version token) can =
      let this : CanHappen s (Allowed i version token) = (subst (λ (xs : List Stored). Contains xs (in_use version token i)) a.past can.0, fits_still version can.1) in
      ((this, tt), agrees_taken (Allowed i version token) (at_rest (version + 1) token) this (λ j. tt) refl refl)
  happens (LogsIn version new) can =
      let this : CanHappen s (LoggedIn version new) = (subst (λ (xs : List Stored). WasFree xs version) a.past can.0, fits_still version can.1) in
      ((this, tt), agrees_taken (LoggedIn version new) (at_rest (version + 1) new) this (λ j. tt) refl refl)
  happens (LogsOut version) can =
      let this : CanHappen s (LoggedOut version) = (subst (λ (xs : List Stored). WasStored xs version) a.past can.0, fits_still version can.1) in
      ((this, tt), agrees_taken (LoggedOut version) (empty (version + 1)) this (λ j. tt) refl refl)

fleet_from : (f : Fleet) (s : Shared) (happenings : List Happening) → Agrees f s → IsFleetRun f happenings → IsRun s (all_events f happenings) × Agrees (fleet_at_last f happenings) (at_last s (all_events f happenings))
fleet_from f s [] a run = (tt, a)
fleet_from f s (h ∷ rest) a run =
    let now = happens f s a h run.0 in
    let next = fleet_from (later f h) (at_last s (events_in f h)) rest now.1 run.1 in
    (run-append s (events_in f h) (all_events (later f h) rest) now.0 next.0, subst (Agrees (fleet_at_last (later f h) rest)) (sym (at_last-append s (events_in f h) (all_events (later f h) rest))) next.1)

whole : (start : Token) (happenings : List Happening) → IsFleetRun (fleet_of start) happenings → IsRun (begin start) (all_events (fleet_of start) happenings) × Agrees (fleet_at_last (fleet_of start) happenings) (at_last (begin start) (all_events (fleet_of start) happenings))
whole start happenings run =
    fleet_from (fleet_of start) (begin start) happenings (record {
      store = refl;
      past = refl;
      knows = λ i. refl;
      asked = λ r h. absurd (none_in_nothing r h);
      taken = taken_begin start;
    }) run

pub each_fleet_runs : EachFleetRuns
each_fleet_runs start happenings run = let made = whole start happenings run in (made.0, sym made.1.store)

pub each_fleet_sends_once : EachFleetSendsOnce
each_fleet_sends_once start happenings r run once =
    each_is_sent_at_most_once start (all_events (fleet_of start) happenings) r (each_fleet_runs start happenings run).0 once

-- what a step hands out is the token of a value that was stored
abbrev WasRead : List Stored → Token → Type 0
WasRead past token = (p : Stored) × Contains past p × (token_in p.content ≡ Some token)

handed_looking : (past : List Stored) (version : ℕ) (c : Content Token) (out : Token) → Contains past (stored_of (record { version = version; content = c })) → handed_out (looked_at version c).step ≡ Some out → WasRead past out
handed_looking past version (content.AtRest token) out seen e = absurd cc
handed_looking past version (content.Marked token other) out seen e = (stored_of (record { version = version; content = content.Marked token other }), seen, e)
handed_looking past version content.Empty out seen e = absurd cc

none_sent : {P : Type 0} (version : ℕ) (token : Token) (l : Learnt) (out : Token) → handed_out (sent_if version token l).step ≡ Some out → P
none_sent version token learnt.Taken out e = absurd cc
none_sent version token learnt.Lost out e = absurd cc
none_sent version token learnt.Open out e = absurd cc

none_returned : {P : Type 0} (version : ℕ) (token : Token) (l : Learnt) (out : Token) → handed_out (returned_if version token l).step ≡ Some out → P
none_returned version token learnt.Taken out e = absurd cc
none_returned version token learnt.Lost out e = absurd cc
none_returned version token learnt.Open out e = absurd cc

none_again : {P : Type 0} (p : Phase Token) (t : Told Token) (out : Token) → handed_out (again_in p t).step ≡ Some out → P
none_again p (told.Stored q) out e = absurd cc
none_again p told.Done out e = absurd cc
none_again p told.Nothing out e = absurd cc
none_again p (told.Answer new) out e = absurd cc
none_again p told.Stop out e = absurd cc

handed : (past : List Stored) (name : ℕ) (p : Phase Token) (t : Told Token) (out : Token) → IsSo past name p t → handed_out (next_turn name p t).step ≡ Some out → WasRead past out
handed past name phase.Looking (told.Stored q) out so e = handed_looking past q.version q.content out so e
handed past name phase.Looking told.Done out so e = absurd cc
handed past name phase.Looking told.Nothing out so e = absurd cc
handed past name phase.Looking (told.Answer new) out so e = absurd cc
handed past name phase.Looking told.Stop out so e = absurd cc
handed past name (phase.Asking version token) (told.Stored q) out so e = none_sent version token (read_again name version q) out e
handed past name (phase.Asking version token) told.Done out so e = absurd cc
handed past name (phase.Asking version token) told.Nothing out so e = absurd cc
handed past name (phase.Asking version token) (told.Answer new) out so e = absurd cc
handed past name (phase.Asking version token) told.Stop out so e = absurd cc
handed past name (phase.Leaving version token) (told.Stored q) out so e = none_returned version token (read_again name version q) out e
handed past name (phase.Leaving version token) told.Done out so e = absurd cc
handed past name (phase.Leaving version token) told.Nothing out so e = absurd cc
handed past name (phase.Leaving version token) (told.Answer new) out so e = absurd cc
handed past name (phase.Leaving version token) told.Stop out so e = absurd cc
handed past name (phase.Sending version) (told.Stored q) out so e = absurd cc
handed past name (phase.Sending version) told.Done out so e = absurd cc
handed past name (phase.Sending version) told.Nothing out so e = absurd cc
handed past name (phase.Sending version) (told.Answer new) out so e = absurd cc
handed past name (phase.Sending version) told.Stop out so e = absurd cc
handed past name (phase.Keeping version new) t out so e = none_again (phase.Keeping version new) t out e
handed past name (phase.Returning version token) t out so e = none_again (phase.Returning version token) t out e
handed past name phase.Over t out so e = absurd cc

pub each_handed_out_was_stored : EachHandedOutWasStored
each_handed_out_was_stored start happenings i told token run so out =
    let made = whole start happenings run in
    let read = handed (fleet_at_last (fleet_of start) happenings).past i (phase_of (fleet_at_last (fleet_of start) happenings) i) told token so out in
    each_read_was_stored start (all_events (fleet_of start) happenings) read.0 token made.0 (subst (λ (past : List Stored). Contains past read.0) made.1.past read.1) read.2
