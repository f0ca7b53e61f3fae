-- Each step of a renewal is an event that can happen.
use Rattle.std.proofs.Common.{◌≡◌, ℕ, ◌+◌, List, [], ◌∷◌, get_or, Some, None, Bool, true, false, nat_lt, if◌then◌else◌, refl, ap, sym, subst, ◌∙◌, ◌⊎◌, inl, inr}
use Rattle.std.specs.List.{Contains}
use Rattle.std.proofs.lemmas.Bool.Decides.{eqb_tells}
use Rattle.oauth2_shared_token.specs.declared.renewal.Content.{Content}
use Rattle.oauth2_shared_token.specs.declared.renewal.Content.TheVariants as content
use Rattle.oauth2_shared_token.specs.declared.renewal.StoredValue.{StoredValue}
use Rattle.oauth2_shared_token.specs.declared.renewal.Learnt.{Learnt}
use Rattle.oauth2_shared_token.specs.declared.renewal.Learnt.TheVariants as learnt
use Rattle.oauth2_shared_token.specs.declared.renewal.Phase.{Phase}
use Rattle.oauth2_shared_token.specs.declared.renewal.Phase.TheVariants as phase
use Rattle.oauth2_shared_token.specs.declared.renewal.Told.{Told}
use Rattle.oauth2_shared_token.specs.declared.renewal.Told.TheVariants as told
use Rattle.oauth2_shared_token.specs.State.{Token, user_of, Stored, at_rest, in_use, empty, Stage, NotBegun, Asking, Marking, Sending, Holding, Returning, Done, put, Shared, stage_of, begin}
use Rattle.oauth2_shared_token.specs.Event.{SharedEvent, Asked, Marked, Sent, Given, Kept, Withdrew, GivenBack, SignedIn, Allowed, LoggedIn, LoggedOut, CanHappen, after}
use Rattle.oauth2_shared_token.specs.Run.{IsRun, at_last}
use Rattle.oauth2_shared_token.specs.Renewal.{looked_at, past_or_open, seen_in, read_again, sent_if, returned_if, again_in, stored_of, IsReached, Knows, IsSo, events_of, EachStepCanHappen, next_turn}
use Rattle.oauth2_shared_token.proofs.Places.{put-same, read-put, in_one_more, only_one}

-- it didn't ask to mark anything yet, or the store didn't take that
abbrev pub is_early : Stage → Bool
is_early NotBegun = true
is_early (Asking version token) = true
is_early (Marking version token) = false
is_early (Sending version) = false
is_early (Holding version new) = false
is_early (Returning version token) = false
is_early Done = false

-- a renewal whose mark was stored is past that
abbrev pub MarksAreTaken : Shared → Type 0
MarksAreTaken s = (j w : ℕ) (t : Token) → Contains s.past (in_use w t j) → is_early (stage_of s j) ≡ false

early-put : (xs : List Stage) (i j : ℕ) (x : Stage) → is_early x ≡ false → is_early (get_or xs j NotBegun) ≡ false → is_early (get_or (put NotBegun xs i x) j NotBegun) ≡ false
early-put xs i j x here before =
    elim (read-put NotBegun xs i j x (get_or (put NotBegun xs i x) j NotBegun) refl) [
      | inl same ↦ ap is_early same.1 ∙ here
      | inr other ↦ sym (ap is_early other.1) ∙ before
    ]

-- a renewal that hasn't begun has no mark that was stored
early-begun : (xs : List Stage) (i j : ℕ) (x : Stage) → get_or xs i NotBegun ≡ NotBegun → is_early (get_or xs j NotBegun) ≡ false → is_early (get_or (put NotBegun xs i x) j NotBegun) ≡ false
early-begun xs i j x none before =
    elim (read-put NotBegun xs i j x (get_or (put NotBegun xs i x) j NotBegun) refl) [
      | inl same ↦ absurd (
          let early : is_early (get_or xs j NotBegun) ≡ true = ap is_early (ap (λ (k : ℕ). get_or xs k NotBegun) same.0 ∙ none) in
          cc)
      | inr other ↦ sym (ap is_early other.1) ∙ before
    ]

not_empty : (v w j : ℕ) (t : Token) → in_use w t j ≡ empty v → ⊥
not_empty v w j t e = let by : Some j ≡ None = ap (λ (p : Stored). user_of p.content) e in cc

not_at_rest : (v w j : ℕ) (t u : Token) → in_use w t j ≡ at_rest v u → ⊥
not_at_rest v w j t u e = let by : Some j ≡ None = ap (λ (p : Stored). user_of p.content) e in cc

pub taken_after : (s : Shared) (event : SharedEvent) → MarksAreTaken s → CanHappen s event → MarksAreTaken (after s event)
taken_after s (Asked i version token) taken can j w t h = early-begun s.renewals i j (Asking version token) can.0 (taken j w t h)
taken_after s (Marked i version token) taken can j w t h =
    elim (in_one_more s.past (in_use (version + 1) token i) (in_use w t j) h) [
      | inl before ↦ early-put s.renewals i j (Marking version token) refl (taken j w t before)
      | inr here ↦
          let by : Some j ≡ Some i = ap (λ (p : Stored). user_of p.content) here in
          let place : j ≡ i = cc in
          rw place (ap is_early (put-same NotBegun s.renewals i (Marking version token)))
    ]
taken_after s (Sent i version token) taken can j w t h =
    early-put s.renewals i j (Sending version) refl (taken j w t h)
taken_after s (Given i version new) taken can j w t h =
    early-put s.renewals i j (Holding version new) refl (taken j w t h)
taken_after s (Kept i version new) taken can j w t h =
    elim (in_one_more s.past (at_rest (version + 2) new) (in_use w t j) h) [
      | inl before ↦ early-put s.renewals i j Done refl (taken j w t before)
      | inr here ↦ absurd (not_at_rest (version + 2) w j t new here)
    ]
taken_after s (Withdrew i version token) taken can j w t h = early-put s.renewals i j (Returning version token) refl (taken j w t h)
taken_after s (GivenBack i version token) taken can j w t h =
    elim (in_one_more s.past (at_rest (version + 2) token) (in_use w t j) h) [
      | inl before ↦ early-put s.renewals i j Done refl (taken j w t before)
      | inr here ↦ absurd (not_at_rest (version + 2) w j t token here)
    ]
taken_after s (SignedIn i version new) taken can j w t h =
    elim (in_one_more s.past (at_rest (version + 1) new) (in_use w t j) h) [
      | inl before ↦ taken j w t before
      | inr here ↦ absurd (not_at_rest (version + 1) w j t new here)
    ]
taken_after s (Allowed i version token) taken can j w t h =
    elim (in_one_more s.past (at_rest (version + 1) token) (in_use w t j) h) [
      | inl before ↦ taken j w t before
      | inr here ↦ absurd (not_at_rest (version + 1) w j t token here)
    ]
taken_after s (LoggedIn version new) taken can j w t h =
    elim (in_one_more s.past (at_rest (version + 1) new) (in_use w t j) h) [
      | inl before ↦ taken j w t before
      | inr here ↦ absurd (not_at_rest (version + 1) w j t new here)
    ]
taken_after s (LoggedOut version) taken can j w t h =
    elim (in_one_more s.past (empty (version + 1)) (in_use w t j) h) [
      | inl before ↦ taken j w t before
      | inr here ↦ absurd (not_empty (version + 1) w j t here)
    ]

taken_at_last : (s : Shared) (events : List SharedEvent) → MarksAreTaken s → IsRun s events → MarksAreTaken (at_last s events)
taken_at_last s [] taken run = taken
taken_at_last s (event ∷ events) taken run = taken_at_last (after s event) events (taken_after s event taken run.0) run.1

pub taken_begin : (start : Token) → MarksAreTaken (begin start)
taken_begin start j w t h = absurd (not_at_rest 0 w j t start (only_one (at_rest 0 start) (in_use w t j) h.0 h.1 h.2))

pub taken_where_reached : (s : Shared) → IsReached s → MarksAreTaken s
taken_where_reached s reached =
    subst MarksAreTaken (sym reached.is) (taken_at_last (begin reached.start) reached.events (taken_begin reached.start) reached.run)

pub can_send : (s : Shared) (name version w : ℕ) (t u : Token) → MarksAreTaken s → Contains s.past (in_use w u name) → (stage_of s name ≡ Asking version t) ⊎ (stage_of s name ≡ Marking version t) → stage_of s name ≡ Marking version t
can_send s name version w t u taken seen (inl asking) =
    absurd (let late = taken name w u seen in let early : is_early (stage_of s name) ≡ true = ap is_early asking in cc)
can_send s name version w t u taken seen (inr marking) = marking

-- a value that is read says that a mark was taken only if it has that mark
open_is_not_taken : (is_past : Bool) → past_or_open is_past ≡ learnt.Taken → ⊥
open_is_not_taken true e = cc
open_is_not_taken false e = cc

seen_is_own : (past : List Stored) (name w : ℕ) (is_past : Bool) (c : Content Token) → Contains past (stored_of (record { version = w; content = c })) → seen_in name is_past c ≡ learnt.Taken → (t : Token) × Contains past (in_use w t name)
seen_is_own past name w is_past (content.AtRest token) seen e = absurd (open_is_not_taken is_past e)
seen_is_own past name w is_past (content.Marked token other) seen e =
    elim (eqb_tells other name) [
      | inl mine ↦ (token, subst (λ (k : ℕ). Contains past (in_use w token k)) mine.1 seen)
      | inr theirs ↦ absurd (open_is_not_taken is_past (ap (λ (b : Bool). if b then learnt.Taken else past_or_open is_past) (sym theirs.0) ∙ e))
    ]
seen_is_own past name w is_past content.Empty seen e = absurd (open_is_not_taken is_past e)

-- who reads its own mark can send
own_mark : (s : Shared) (name version : ℕ) (t : Token) (p : StoredValue Token) → MarksAreTaken s → (stage_of s name ≡ Asking version t) ⊎ (stage_of s name ≡ Marking version t) → Contains s.past (stored_of p) → read_again name version p ≡ learnt.Taken → stage_of s name ≡ Marking version t
own_mark s name version t p taken knows seen e =
    let own = seen_is_own s.past name p.version (nat_lt version p.version) p.content seen e in
    can_send s name version p.version t own.0 taken own.1 knows

step_sent : (s : Shared) (name version : ℕ) (token : Token) (l : Learnt) → (l ≡ learnt.Taken → stage_of s name ≡ Marking version token) → IsRun s (events_of name (sent_if version token l).step)
step_sent s name version token learnt.Taken can = (can refl, tt)
step_sent s name version token learnt.Lost can = tt
step_sent s name version token learnt.Open can = tt

step_returned : (s : Shared) (name version : ℕ) (token : Token) (l : Learnt) → (l ≡ learnt.Taken → stage_of s name ≡ Marking version token) → IsRun s (events_of name (returned_if version token l).step)
step_returned s name version token learnt.Taken can = (can refl, tt)
step_returned s name version token learnt.Lost can = tt
step_returned s name version token learnt.Open can = tt

step_looking : (s : Shared) (name version : ℕ) (c : Content Token) → stage_of s name ≡ NotBegun → Contains s.past (stored_of (record { version = version; content = c })) → IsRun s (events_of name (looked_at version c).step)
step_looking s name version (content.AtRest token) new h = ((new, h), tt)
step_looking s name version (content.Marked token other) new h = tt
step_looking s name version content.Empty new h = tt

step_repeated : (s : Shared) (name : ℕ) (p : Phase Token) (t : Told Token) → IsRun s (events_of name (again_in p t).step)
step_repeated s name p (told.Stored q) = tt
step_repeated s name p told.Done = tt
step_repeated s name p told.Nothing = tt
step_repeated s name p (told.Answer new) = tt
step_repeated s name p told.Stop = tt

pub step_can_happen : (s : Shared) (name : ℕ) (p : Phase Token) (t : Told Token) → MarksAreTaken s → Knows s name p → IsSo s.past name p t → IsRun s (events_of name (next_turn name p t).step)
step_can_happen s name phase.Looking (told.Stored p) taken knows so = step_looking s name p.version p.content knows so
step_can_happen s name phase.Looking told.Done taken knows so = tt
step_can_happen s name phase.Looking told.Nothing taken knows so = tt
step_can_happen s name phase.Looking (told.Answer new) taken knows so = tt
step_can_happen s name phase.Looking told.Stop taken knows so = tt
step_can_happen s name (phase.Asking version token) (told.Stored p) taken knows so =
    step_sent s name version token (read_again name version p) (λ e. own_mark s name version token p taken knows so e)
step_can_happen s name (phase.Asking version token) told.Done taken knows so =
    (can_send s name version (version + 1) token token taken so knows, tt)
step_can_happen s name (phase.Asking version token) told.Nothing taken knows so = tt
step_can_happen s name (phase.Asking version token) (told.Answer new) taken knows so = tt
step_can_happen s name (phase.Asking version token) told.Stop taken knows so = tt
step_can_happen s name (phase.Leaving version token) (told.Stored p) taken knows so =
    step_returned s name version token (read_again name version p) (λ e. own_mark s name version token p taken knows so e)
step_can_happen s name (phase.Leaving version token) told.Done taken knows so =
    (can_send s name version (version + 1) token token taken so knows, tt)
step_can_happen s name (phase.Leaving version token) told.Nothing taken knows so = tt
step_can_happen s name (phase.Leaving version token) (told.Answer new) taken knows so = tt
step_can_happen s name (phase.Leaving version token) told.Stop taken knows so = tt
step_can_happen s name (phase.Sending version) (told.Stored p) taken knows so = tt
step_can_happen s name (phase.Sending version) told.Done taken knows so = tt
step_can_happen s name (phase.Sending version) told.Nothing taken knows so = tt
step_can_happen s name (phase.Sending version) (told.Answer new) taken knows so = (knows, tt)
step_can_happen s name (phase.Sending version) told.Stop taken knows so = tt
step_can_happen s name (phase.Keeping version new) t taken knows so = step_repeated s name (phase.Keeping version new) t
step_can_happen s name (phase.Returning version token) t taken knows so = step_repeated s name (phase.Returning version token) t
step_can_happen s name phase.Over t taken knows so = tt

pub each_step_can_happen : EachStepCanHappen
each_step_can_happen s name phase told reached knows so = step_can_happen s name phase told (taken_where_reached s reached) knows so
