-- The calls of renewals are turns of the machines of a fleet.
use Rattle.std.proofs.Common.{◌≡◌, ℕ, ◌+◌, ◌≤◌, Bool, true, false, nat_lt, ◌==◌, if◌then◌else◌, List, [], ◌∷◌, ◌++◌, Option, Some, refl, ap, sym, ◌∙◌, subst, arith, append_assoc, add_assoc, zero-add, ◌⊎◌, inl, inr}
use Rattle.std.proofs.lemmas.Bool.Decides.{eqb_tells}
use Rattle.std.proofs.lemmas.List.Elements.{Contains-append_left, Contains-append_right, Contains-append_cases, Contains-push}
use Rattle.std.specs.List.{Contains}
use Rattle.std.specs.Prelude.{bytes_eq}
use Rattle.std.proofs.lemmas.Slice.Eq.{bytes_eq-Decides}
use Rattle.oauth2_shared_token.specs.declared.renewal.Content.{Content}
use Rattle.oauth2_shared_token.specs.declared.renewal.Content.TheVariants as content
use Rattle.oauth2_shared_token.specs.declared.renewal.Learnt.{Learnt}
use Rattle.oauth2_shared_token.specs.declared.renewal.Learnt.TheVariants as learnt
use Rattle.oauth2_shared_token.specs.declared.renewal.Phase.{Phase}
use Rattle.oauth2_shared_token.specs.declared.renewal.Phase.TheVariants as phase
use Rattle.oauth2_shared_token.specs.declared.renewal.Step.{Step}
use Rattle.oauth2_shared_token.specs.declared.renewal.Step.TheVariants as step
use Rattle.oauth2_shared_token.specs.declared.renewal.Told.{Told}
use Rattle.oauth2_shared_token.specs.declared.renewal.Told.TheVariants as told
use Rattle.oauth2_shared_token.specs.declared.renewal.Turn.{Turn}
use Rattle.oauth2_shared_token.specs.State.{Token}
use Rattle.oauth2_shared_token.specs.Event.{SharedEvent, Asked, Marked, Sent, Given, Kept, Withdrew, GivenBack, SignedIn, Allowed, LoggedIn, LoggedOut}
use Rattle.oauth2_shared_token.specs.Run.{has_refresh, times_sent, times_stored}
use Rattle.oauth2_shared_token.specs.Renewal.{turn_of, looked_at, seen_in, sent_if, returned_if, next_turn, events_of}
use Rattle.oauth2_shared_token.specs.Fleet.{ToMark, ToKeep, ToReturn, Fleet, phase_of, Happening, Turned, Took, SignsIn, Allows, LogsIn, LogsOut, later, events_in, fleet_of, all_events}
use Rattle.oauth2_shared_token.proofs.Places.{put-same, put-other, none_in_nothing}
use Rattle.oauth2_shared_token.proofs.Fleets.{each_fleet_sends_once}
use Rattle.oauth2_shared_keeper.specs.Call.{ToRefresh, Call, Load, Replace, Refresh, request_of, told_by, refreshes_in}
use Rattle.oauth2_shared_keeper.specs.Renewal.{AsksInTurn, asked_again, asked_by, first_turn}
use Rattle.oauth2_shared_keeper.specs.Fleets.{FleetEvent, Made, Other, calls_of, IsNoTurn, TurnsAreCalls, content_as, told_as, happenings_of, IsFleet, times_refreshed, EachRefreshIsOfTheFleet, EachRefreshTokenIsSentOnce}
use Rattle.oauth2_shared_keeper.proofs.History.{the_only, none_given, sends_few, state_after}
use Rattle.oauth2_shared_keeper.proofs.Runs.{refreshes_in-append}

module _ {T U : Type 0} (view : T → U) where
  -- the same turn, with each token seen otherwise
  abbrev pub phase_as : Phase T → Phase U
  phase_as phase.Looking = phase.Looking
  phase_as (phase.Asking v t) = phase.Asking v (view t)
  phase_as (phase.Leaving v t) = phase.Leaving v (view t)
  phase_as (phase.Sending v) = phase.Sending v
  phase_as (phase.Keeping v new) = phase.Keeping v (view new)
  phase_as (phase.Returning v t) = phase.Returning v (view t)
  phase_as phase.Over = phase.Over

  abbrev pub step_as : Step T → Step U
  step_as step.Look = step.Look
  step_as (step.Mark v t) = step.Mark v (view t)
  step_as (step.Send v t) = step.Send v (view t)
  step_as (step.Keep v new) = step.Keep v (view new)
  step_as (step.GiveBack v t) = step.GiveBack v (view t)
  step_as step.Repeat = step.Repeat
  step_as (step.InUse other t) = step.InUse other (view t)
  step_as step.LoggedOut = step.LoggedOut
  step_as step.End = step.End

  abbrev pub turn_as : Turn T → Turn U
  turn_as turn = turn_of (phase_as turn.phase) (step_as turn.step)

  looked-as : (v : ℕ) (c : Content T) → looked_at v (content_as view c) ≡ turn_as (looked_at v c)
  looked-as v (content.AtRest t) = refl
  looked-as v (content.Marked t other) = refl
  looked-as v content.Empty = refl

  seen-as : (name : ℕ) (is_past : Bool) (c : Content T) → seen_in name is_past (content_as view c) ≡ seen_in name is_past c
  seen-as name is_past (content.AtRest t) = refl
  seen-as name is_past (content.Marked t other) = refl
  seen-as name is_past content.Empty = refl

  sent-as : (v : ℕ) (t : T) (l : Learnt) → sent_if v (view t) l ≡ turn_as (sent_if v t l)
  sent-as v t learnt.Taken = refl
  sent-as v t learnt.Lost = refl
  sent-as v t learnt.Open = refl

  returned-as : (v : ℕ) (t : T) (l : Learnt) → returned_if v (view t) l ≡ turn_as (returned_if v t l)
  returned-as v t learnt.Taken = refl
  returned-as v t learnt.Lost = refl
  returned-as v t learnt.Open = refl

  -- a renewal decides the same, however its tokens are seen
  pub next-as : (name : ℕ) (p : Phase T) (said : Told T) → next_turn name (phase_as p) (told_as view said) ≡ turn_as (next_turn name p said)
  next-as name phase.Looking (told.Stored s) = looked-as s.version s.content
  next-as name phase.Looking told.Done = refl
  next-as name phase.Looking told.Nothing = refl
  next-as name phase.Looking (told.Answer new) = refl
  next-as name phase.Looking told.Stop = refl
  next-as name (phase.Asking v t) (told.Stored s) =
      ap (λ (l : Learnt). sent_if v (view t) l) (seen-as name (nat_lt v s.version) s.content) ∙ sent-as v t (seen_in name (nat_lt v s.version) s.content)
  next-as name (phase.Asking v t) told.Done = refl
  next-as name (phase.Asking v t) told.Nothing = refl
  next-as name (phase.Asking v t) (told.Answer new) = refl
  next-as name (phase.Asking v t) told.Stop = refl
  next-as name (phase.Leaving v t) (told.Stored s) =
      ap (λ (l : Learnt). returned_if v (view t) l) (seen-as name (nat_lt v s.version) s.content) ∙ returned-as v t (seen_in name (nat_lt v s.version) s.content)
  next-as name (phase.Leaving v t) told.Done = refl
  next-as name (phase.Leaving v t) told.Nothing = refl
  next-as name (phase.Leaving v t) (told.Answer new) = refl
  next-as name (phase.Leaving v t) told.Stop = refl
  next-as name (phase.Sending v) (told.Stored s) = refl
  next-as name (phase.Sending v) told.Done = refl
  next-as name (phase.Sending v) told.Nothing = refl
  next-as name (phase.Sending v) (told.Answer new) = refl
  next-as name (phase.Sending v) told.Stop = refl
  next-as name (phase.Keeping v new) (told.Stored s) = refl
  next-as name (phase.Keeping v new) told.Done = refl
  next-as name (phase.Keeping v new) told.Nothing = refl
  next-as name (phase.Keeping v new) (told.Answer other) = refl
  next-as name (phase.Keeping v new) told.Stop = refl
  next-as name (phase.Returning v t) (told.Stored s) = refl
  next-as name (phase.Returning v t) told.Done = refl
  next-as name (phase.Returning v t) told.Nothing = refl
  next-as name (phase.Returning v t) (told.Answer new) = refl
  next-as name (phase.Returning v t) told.Stop = refl
  next-as name phase.Over said = refl

-- only the step that sends asks for a refresh
repeats_no_refresh : {T : Type 0} (p : Phase T) (token : T) → asked_again p ≡ Some (ToRefresh token) → ⊥
repeats_no_refresh phase.Looking token e = cc
repeats_no_refresh (phase.Asking v t) token e = cc
repeats_no_refresh (phase.Leaving v t) token e = cc
repeats_no_refresh (phase.Sending v) token e = cc
repeats_no_refresh (phase.Keeping v new) token e = cc
repeats_no_refresh (phase.Returning v t) token e = cc
repeats_no_refresh phase.Over token e = cc

sends_asked : {T : Type 0} (name : ℕ) (p : Phase T) (s : Step T) (token : T) → asked_by name p s ≡ Some (ToRefresh token) → (v : ℕ) × (s ≡ step.Send v token)
sends_asked name p step.Look token e = absurd cc
sends_asked name p (step.Mark v t) token e = absurd cc
sends_asked name p (step.Send v t) token e = (v, cc)
sends_asked name p (step.Keep v new) token e = absurd cc
sends_asked name p (step.GiveBack v t) token e = absurd cc
sends_asked name p step.Repeat token e = absurd (repeats_no_refresh p token e)
sends_asked name p (step.InUse other t) token e = absurd cc
sends_asked name p step.LoggedOut token e = absurd cc
sends_asked name p step.End token e = absurd cc

-- what else happens changes no machine
phases_stay : (f : Fleet) (i : ℕ) (h : Happening) → IsNoTurn h → phase_of (later f h) i ≡ phase_of f i
phases_stay f i (Turned j said) quiet = absurd quiet
phases_stay f i (Took (ToMark j v t)) quiet = refl
phases_stay f i (Took (ToKeep j v new)) quiet = refl
phases_stay f i (Took (ToReturn j v t)) quiet = refl
phases_stay f i (SignsIn j v new) quiet = refl
phases_stay f i (Allows j v t) quiet = refl
phases_stay f i (LogsIn v new) quiet = refl
phases_stay f i (LogsOut v) quiet = refl

module _ {T : Type 0} (view : T → Token) (i : ℕ) where
  -- a step that sends has its event
  abbrev IsSent : List SharedEvent → Turn T → Type 0
  IsSent sofar turn = (v : ℕ) (t : T) → turn.step ≡ step.Send v t → Contains sofar (Sent i v (view t))

  -- some call that sends has its event
  abbrev HasEvent : List SharedEvent → T → Type 0
  HasEvent all token = (v : ℕ) × Contains all (Sent i v (view token))

  sent_now : (sofar : List SharedEvent) (p : Phase Token) (turn : Turn T) (said : Told T) → p ≡ phase_as view turn.phase
      → IsSent (sofar ++ events_of i (next_turn i p (told_as view said)).step) (next_turn i turn.phase said)
  sent_now sofar p turn said in_phase v t is =
      let next : Turn T = next_turn i turn.phase said in
      let same : next_turn i p (told_as view said) ≡ turn_as view next = ap (λ (q : Phase Token). next_turn i q (told_as view said)) in_phase ∙ next-as view i turn.phase said in
      let sends : (next_turn i p (told_as view said)).step ≡ step.Send v (view t) = ap (λ (k : Turn Token). k.step) same ∙ ap (step_as view) is in
      subst (λ (s : Step Token). Contains (sofar ++ events_of i s) (Sent i v (view t))) (sym sends) (Contains-push sofar (Sent i v (view t)))

  pub phase_now : (f : Fleet) (turn : Turn T) (said : Told T) → phase_of f i ≡ phase_as view turn.phase
      → phase_of (later f (Turned i (told_as view said))) i ≡ phase_as view (next_turn i turn.phase said).phase
  phase_now f turn said in_phase =
      put-same phase.Looking f.phases i (next_turn i (phase_of f i) (told_as view said)).phase
      ∙ (ap (λ (q : Phase Token). (next_turn i q (told_as view said)).phase) in_phase
      ∙ ap (λ (k : Turn Token). k.phase) (next-as view i turn.phase said))

  -- the calls of this renewal after this one, if it is its own
  pub calls_mine : (j : ℕ) (call : Call T) (events : List (FleetEvent T)) → (i == j) ≡ true → calls_of i (Made j call ∷ events) ≡ call ∷ calls_of i events
  calls_mine j call events mine = ap (λ (b : Bool). if b then call ∷ calls_of i events else calls_of i events) mine

  pub calls_theirs : (j : ℕ) (call : Call T) (events : List (FleetEvent T)) → (i == j) ≡ false → calls_of i (Made j call ∷ events) ≡ calls_of i events
  calls_theirs j call events theirs = ap (λ (b : Bool). if b then call ∷ calls_of i events else calls_of i events) theirs

  follow : (f : Fleet) (sofar : List SharedEvent) (events : List (FleetEvent T)) (turn last : Turn T) (token : T) (given : Option T) → TurnsAreCalls events
      → AsksInTurn i turn (calls_of i events) last → phase_of f i ≡ phase_as view turn.phase → IsSent sofar turn
      → Contains events (Made i (Refresh token given)) → HasEvent (sofar ++ all_events f (happenings_of view events)) token
  follow f sofar [] turn last token given turns asks in_phase sent has = absurd (none_in_nothing (Made i (Refresh token given)) has)
  follow f sofar (Other h ∷ events) turn last token given turns asks in_phase sent has =
      elim (Contains-append_cases (Other h ∷ []) events (Made i (Refresh token given)) has) [
        | inl here ↦ absurd (let e : Other h ≡ Made i (Refresh token given) = the_only (Other h) (Made i (Refresh token given)) here in cc)
        | inr there ↦
            subst (λ (all : List SharedEvent). HasEvent all token) (append_assoc sofar (events_in f h) (all_events (later f h) (happenings_of view events)))
            (follow (later f h) (sofar ++ events_in f h) events turn last token given turns.1 asks (phases_stay f i h turns.0 ∙ in_phase)
            (λ v t is. Contains-append_left sofar (events_in f h) (Sent i v (view t)) (sent v t is)) there)
      ]
  follow f sofar (Made j call ∷ events) turn last token given turns asks in_phase sent has =
      let said : Told Token = told_as view (told_by call) in
      let happens : Happening = Turned j said in
      let rest : List Happening = happenings_of view events in
      elim (eqb_tells i j) [
        | inl mine ↦ (
            let own = subst (λ (l : List (Call T)). AsksInTurn i turn l last) (calls_mine j call events mine.0) asks in
            elim (Contains-append_cases (Made j call ∷ []) events (Made i (Refresh token given)) has) [
              | inl here ↦ (
                  let e : Made j call ≡ Made i (Refresh token given) = the_only (Made j call) (Made i (Refresh token given)) here in
                  let is : call ≡ Refresh token given = cc in
                  let asked : asked_by i turn.phase turn.step ≡ Some (ToRefresh token) = own.0 ∙ ap (λ (k : Call T). Some (request_of k)) is in
                  let k = sends_asked i turn.phase turn.step token asked in
                  (k.0, Contains-append_left sofar (all_events f (happens ∷ rest)) (Sent i k.0 (view token)) (sent k.0 token k.1)))
              | inr there ↦
                  subst (λ (m : ℕ). HasEvent (sofar ++ all_events f (Turned m said ∷ rest)) token) mine.1
                  (subst (λ (all : List SharedEvent). HasEvent all token) (append_assoc sofar (events_in f (Turned i said)) (all_events (later f (Turned i said)) rest))
                  (follow (later f (Turned i said)) (sofar ++ events_in f (Turned i said)) events (next_turn i turn.phase (told_by call)) last token given turns own.1
                  (phase_now f turn (told_by call) in_phase) (sent_now sofar (phase_of f i) turn (told_by call) in_phase) there))
            ])
        | inr theirs ↦
            elim (Contains-append_cases (Made j call ∷ []) events (Made i (Refresh token given)) has) [
              | inl here ↦ absurd (
                  let e : Made j call ≡ Made i (Refresh token given) = the_only (Made j call) (Made i (Refresh token given)) here in
                  let is : i ≡ j = cc in
                  theirs.1 is)
              | inr there ↦
                  subst (λ (all : List SharedEvent). HasEvent all token) (append_assoc sofar (events_in f happens) (all_events (later f happens) rest))
                  (follow (later f happens) (sofar ++ events_in f happens) events turn last token given turns
                  (subst (λ (l : List (Call T)). AsksInTurn i turn l last) (calls_theirs j call events theirs.0) asks)
                  (put-other phase.Looking f.phases j i (next_turn j (phase_of f j) said).phase theirs.1 ∙ in_phase)
                  (λ v t is. Contains-append_left sofar (events_in f happens) (Sent i v (view t)) (sent v t is)) there)
            ]
      ]

pub each_refresh_is_of_the_fleet : (T : Type 0) → EachRefreshIsOfTheFleet T
each_refresh_is_of_the_fleet T view start events i token given fleet has =
    let asks = fleet.renewals i in
    follow view i (fleet_of start) [] events first_turn asks.0 token given fleet.turns asks.1 refl (λ v t is. absurd (let e : step.Look ≡ step.Send v t = is in cc)) has

-- sendings, one after the other
sent-cons : (r : List ℕ) (e : SharedEvent) (events : List SharedEvent) → times_sent r (e ∷ events) ≡ times_sent r (e ∷ []) + times_sent r events
sent-cons r (Asked i v t) events = sym (zero-add (times_sent r events))
sent-cons r (Marked i v t) events = sym (zero-add (times_sent r events))
sent-cons r (Sent i v t) events = sym (add_assoc (has_refresh r t) 0 (times_sent r events) ∙ ap (λ n. has_refresh r t + n) (zero-add (times_sent r events)))
sent-cons r (Given i v new) events = sym (zero-add (times_sent r events))
sent-cons r (Kept i v new) events = sym (zero-add (times_sent r events))
sent-cons r (Withdrew i v t) events = sym (zero-add (times_sent r events))
sent-cons r (GivenBack i v t) events = sym (zero-add (times_sent r events))
sent-cons r (SignedIn i v new) events = sym (zero-add (times_sent r events))
sent-cons r (Allowed i v t) events = sym (zero-add (times_sent r events))
sent-cons r (LoggedIn v new) events = sym (zero-add (times_sent r events))
sent-cons r (LoggedOut v) events = sym (zero-add (times_sent r events))

module _ (r : List ℕ) (same : bytes_eq r r ≡ true) where
  counts : (t : Token) → t.refresh ≡ r → has_refresh r t ≡ 1
  counts t is = ap (λ (s : List ℕ). if bytes_eq r s then 1 else 0) is ∙ ap (λ (b : Bool). if b then 1 else 0) same

  counts_here : (e : SharedEvent) (i v : ℕ) (t : Token) → e ≡ Sent i v t → t.refresh ≡ r → times_sent r (e ∷ []) ≡ 1
  counts_here e i v t is has = ap (λ (k : SharedEvent). times_sent r (k ∷ [])) is ∙ ap (λ n. n + 0) (counts t has)

  some_sent : (events : List SharedEvent) (i v : ℕ) (t : Token) → t.refresh ≡ r → Contains events (Sent i v t) → 1 ≤ times_sent r events
  some_sent [] i v t is has = absurd (none_in_nothing (Sent i v t) has)
  some_sent (e ∷ events) i v t is has =
      let sum = sent-cons r e events in
      elim (Contains-append_cases (e ∷ []) events (Sent i v t) has) [
        | inl here ↦ (let one = counts_here e i v t (the_only e (Sent i v t) here) is in omega arith)
        | inr there ↦ (let some = some_sent events i v t is there in omega arith)
      ]

  of_one : (events : List SharedEvent) (i j v w : ℕ) (t u : Token) → times_sent r events ≤ 1 → t.refresh ≡ r → u.refresh ≡ r
      → Contains events (Sent i v t) → Contains events (Sent j w u) → i ≡ j
  of_one [] i j v w t u few is its has gets = absurd (none_in_nothing (Sent i v t) has)
  of_one (e ∷ events) i j v w t u few is its has gets =
      let sum = sent-cons r e events in
      elim (Contains-append_cases (e ∷ []) events (Sent i v t) has) [
        | inl here ↦ elim (Contains-append_cases (e ∷ []) events (Sent j w u) gets) [
          | inl also ↦ (
              let a : e ≡ Sent i v t = the_only e (Sent i v t) here in
              let b : e ≡ Sent j w u = the_only e (Sent j w u) also in
              let both : Sent i v t ≡ Sent j w u = sym a ∙ b in
              cc)
          | inr there ↦ absurd (
              let one = counts_here e i v t (the_only e (Sent i v t) here) is in
              let some = some_sent events j w u its there in
              omega arith)
        ]
        | inr there ↦ elim (Contains-append_cases (e ∷ []) events (Sent j w u) gets) [
          | inl also ↦ absurd (
              let one = counts_here e j w u (the_only e (Sent j w u) also) its in
              let some = some_sent events i v t is there in
              omega arith)
          | inr too ↦ of_one events i j v w t u (omega arith) is its there too
        ]
      ]

-- two calls that send it are of one renewal
of_one_renewal : {T : Type 0} (view : T → Token) (start : Token) (events : List (FleetEvent T)) (r : List ℕ) (i j : ℕ) (token other : T) (given gotten : Option T)
    → IsFleet view start events
    → has_refresh r start + times_stored r (all_events (fleet_of start) (happenings_of view events)) ≤ 1
    → Contains events (Made i (Refresh token given)) → Contains events (Made j (Refresh other gotten))
    → (view token).refresh ≡ r → (view other).refresh ≡ r → i ≡ j
of_one_renewal {T} view start events r i j token other given gotten fleet once has gets is its =
    let all : List SharedEvent = all_events (fleet_of start) (happenings_of view events) in
    let a = each_refresh_is_of_the_fleet T view start events i token given fleet has in
    let b = each_refresh_is_of_the_fleet T view start events j other gotten fleet gets in
    of_one r ((bytes_eq-Decides r r).1 refl) all i j a.0 b.0 (view token) (view other) (each_fleet_sends_once start (happenings_of view events) r fleet.run once) is its a.1 b.1

at_most_one : (b : Bool) → (if b then 1 else 0) ≤ 1
at_most_one true = omega arith
at_most_one false = omega arith

-- the calls of one renewal, and those of all
module _ {T : Type 0} where
  own_calls : (events : List (FleetEvent T)) (i : ℕ) (call : Call T) → Contains events (Made i call) → Contains (calls_of i events) call
  own_calls [] i call has = absurd (none_in_nothing (Made i call) has)
  own_calls (Other h ∷ events) i call has =
      elim (Contains-append_cases (Other h ∷ []) events (Made i call) has) [
        | inl here ↦ absurd (let e : Other h ≡ Made i call = the_only (Other h) (Made i call) here in cc)
        | inr there ↦ own_calls events i call there
      ]
  own_calls (Made j made ∷ events) i call has =
      elim (eqb_tells i j) [
        | inl mine ↦
            subst (λ (l : List (Call T)). Contains l call) (sym (ap (λ (b : Bool). if b then made ∷ calls_of i events else calls_of i events) mine.0))
            (elim (Contains-append_cases (Made j made ∷ []) events (Made i call) has) [
              | inl here ↦ (
                  let e : Made j made ≡ Made i call = the_only (Made j made) (Made i call) here in
                  let is : made ≡ call = cc in
                  subst (λ (c : Call T). Contains (c ∷ calls_of i events) call) (sym is) (Contains-append_left (call ∷ []) (calls_of i events) call (Contains-push [] call)))
              | inr there ↦ Contains-append_right (made ∷ []) (calls_of i events) call (own_calls events i call there)
            ])
        | inr theirs ↦
            subst (λ (l : List (Call T)). Contains l call) (sym (ap (λ (b : Bool). if b then made ∷ calls_of i events else calls_of i events) theirs.0))
            (elim (Contains-append_cases (Made j made ∷ []) events (Made i call) has) [
              | inl here ↦ absurd (
                  let e : Made j made ≡ Made i call = the_only (Made j made) (Made i call) here in
                  let is : i ≡ j = cc in
                  theirs.1 is)
              | inr there ↦ own_calls events i call there
            ])
      ]

  fewer : (events : List (FleetEvent T)) (i j : ℕ) (made : Call T) → refreshes_in (calls_of i (Made j made ∷ events)) ≤ 1 → refreshes_in (calls_of i events) ≤ 1
  fewer events i j made few =
      elim (eqb_tells i j) [
        | inl mine ↦ (
            let all = subst (λ (l : List (Call T)). refreshes_in l ≤ 1) (ap (λ (b : Bool). if b then made ∷ calls_of i events else calls_of i events) mine.0) few in
            let sum = refreshes_in-append (made ∷ []) (calls_of i events) in
            omega arith)
        | inr theirs ↦ subst (λ (l : List (Call T)). refreshes_in l ≤ 1) (ap (λ (b : Bool). if b then made ∷ calls_of i events else calls_of i events) theirs.0) few
      ]

  module _ (view : T → Token) (r : List ℕ) where
    -- no call sends it
    abbrev NoneSends : List (FleetEvent T) → Type 0
    NoneSends events = (j : ℕ) (u : T) (given : Option T) → Contains events (Made j (Refresh u given)) → (view u).refresh ≡ r → ⊥

    -- it is this one, or another
    tells : (token : T) → ((view token).refresh ≡ r) ⊎ (has_refresh r (view token) ≡ 0)
    tells token = go (bytes_eq r (view token).refresh) refl where
      go : (b : Bool) → bytes_eq r (view token).refresh ≡ b → ((view token).refresh ≡ r) ⊎ (has_refresh r (view token) ≡ 0)
      go true is = inl (sym ((bytes_eq-Decides r (view token).refresh).0 is))
      go false is = inr (ap (λ (b : Bool). if b then 1 else 0) is)

    none_sent : (events : List (FleetEvent T)) → NoneSends events → times_refreshed view r events ≡ 0
    none_sent [] none = refl
    none_sent (Other h ∷ events) none = none_sent events (λ j u given has is. none j u given (Contains-append_right (Other h ∷ []) events _ has) is)
    none_sent (Made i (Load shown) ∷ events) none =
        let later_none : times_refreshed view r events ≡ 0 = none_sent events (λ j u given has is. none j u given (Contains-append_right (Made i (Load shown) ∷ []) events _ has) is) in
        omega arith
    none_sent (Made i (Replace v c done) ∷ events) none =
        let later_none : times_refreshed view r events ≡ 0 = none_sent events (λ j u given has is. none j u given (Contains-append_right (Made i (Replace v c done) ∷ []) events _ has) is) in
        omega arith
    none_sent (Made i (Refresh token gotten) ∷ events) none =
        let later_none : times_refreshed view r events ≡ 0 = none_sent events (λ j u given has is. none j u given (Contains-append_right (Made i (Refresh token gotten) ∷ []) events _ has) is) in
        elim (tells token) [
          | inl same ↦ absurd (none i token gotten (Contains-append_left (Made i (Refresh token gotten) ∷ []) events _ (Contains-push [] (Made i (Refresh token gotten)))) same)
          | inr other ↦ omega arith
        ]

    -- all that send it are of one renewal
    abbrev OneSends : List (FleetEvent T) → Type 0
    OneSends events =
        (i j : ℕ) (t u : T) (given gotten : Option T) → Contains events (Made i (Refresh t given)) → Contains events (Made j (Refresh u gotten))
        → (view t).refresh ≡ r → (view u).refresh ≡ r → i ≡ j

    one_later : (e : FleetEvent T) (events : List (FleetEvent T)) → OneSends (e ∷ events) → OneSends events
    one_later e events one i j t u given gotten has gets is its =
        one i j t u given gotten (Contains-append_right (e ∷ []) events _ has) (Contains-append_right (e ∷ []) events _ gets) is its

    few_sent : (events : List (FleetEvent T)) → OneSends events → ((i : ℕ) → refreshes_in (calls_of i events) ≤ 1) → times_refreshed view r events ≤ 1
    few_sent [] one each = omega arith
    few_sent (Other h ∷ events) one each = few_sent events (one_later (Other h) events one) each
    few_sent (Made i (Load shown) ∷ events) one each =
        let later_few : times_refreshed view r events ≤ 1 = few_sent events (one_later (Made i (Load shown)) events one) (λ k. fewer events k i (Load shown) (each k)) in
        omega arith
    few_sent (Made i (Replace v c done) ∷ events) one each =
        let later_few : times_refreshed view r events ≤ 1 = few_sent events (one_later (Made i (Replace v c done)) events one) (λ k. fewer events k i (Replace v c done) (each k)) in
        omega arith
    few_sent (Made i (Refresh token gotten) ∷ events) one each =
        let call : Call T = Refresh token gotten in
        elim (tells token) [
          | inl same ↦ (
              let mine : (i == i) ≡ true = elim (eqb_tells i i) [ inl equals ↦ equals.0 | inr differs ↦ absurd (differs.1 refl) ] in
              let all : refreshes_in (call ∷ calls_of i events) ≤ 1 =
              subst (λ (l : List (Call T)). refreshes_in l ≤ 1) (ap (λ (b : Bool). if b then call ∷ calls_of i events else calls_of i events) mine) (each i) in
              let none : refreshes_in (calls_of i events) ≡ 0 = omega arith in
              let head : Contains (Made i call ∷ events) (Made i call) = Contains-append_left (Made i call ∷ []) events (Made i call) (Contains-push [] (Made i call)) in
              let later_none : NoneSends events =
              (λ j u given has is.
              let same_renewal : j ≡ i = one j i u token given gotten (Contains-append_right (Made i call ∷ []) events (Made j (Refresh u given)) has) head is same in
              none_given (calls_of i events) u given none
              (own_calls events i (Refresh u given) (subst (λ (k : ℕ). Contains events (Made k (Refresh u given))) same_renewal has))) in
              let later_is : times_refreshed view r events ≡ 0 = none_sent events later_none in
              let once : has_refresh r (view token) ≤ 1 = at_most_one (bytes_eq r (view token).refresh) in
              omega arith)
          | inr other ↦ (
              let later_few : times_refreshed view r events ≤ 1 = few_sent events (one_later (Made i call) events one) (λ k. fewer events k i call (each k)) in
              omega arith)
        ]

pub each_refresh_token_is_sent_once : (T : Type 0) → EachRefreshTokenIsSentOnce T
each_refresh_token_is_sent_once T view start events r fleet once =
    few_sent view r events
    (λ i j t u given gotten has gets is its. of_one_renewal view start events r i j t u given gotten fleet once has gets is its)
    (λ i. let asks = fleet.renewals i in sends_few i (calls_of i events) asks.0 (state_after i (calls_of i events) asks.0 asks.1))
