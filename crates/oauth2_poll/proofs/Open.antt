-- A poll after some rounds, none of which ended it.
use Rattle.std.proofs.Common.{◌≡◌, ◌≢◌, ℕ, suc, ◌+◌, ◌-◌, ◌<◌, ◌≤◌, List, [], ◌∷◌, ◌++◌, map, length, Option, Some, refl, ap, sym, ◌∙◌, arith, subst}
use Rattle.std.specs.Prelude.{slice_get, ℤ, pos, ◌+ℤ◌, ◌<ℤ◌}
use Rattle.std.proofs.lemmas.List.{map-append}
use Rattle.std.proofs.lemmas.List.Sums.{fold-append}
use Rattle.std.proofs.lemmas.Option.{slice_get_within}
use Rattle.std.proofs.Math.Decide.{dec_le}
use Rattle.jiff.specs.Words.{IsTimestampNanos}
use Rattle.oauth2_poll.specs.declared.device_poll.PollAnswer.{PollAnswer}
use Rattle.oauth2_poll.specs.declared.device_poll.PollAnswer.TheVariants.{Deciding}
use Rattle.oauth2_poll.specs.State.{PollState}
use Rattle.oauth2_poll.specs.Step.{TimeoutFits, next_interval, state_after}
use Rattle.oauth2_poll.specs.Trace.{PollInput, TraceEvent, Reading, Asked, Answered, Slept, IsLate, GoesOn, IsReached, Late, Decided, interval_after, reading_at, rounds, poll_events}
use Rattle.oauth2_poll.proofs.Lists.{take_one_more}

-- k rounds are over, and this is what was done in them
pub record IsOpen (p : PollInput) (k : ℕ) (xs : List TraceEvent) (poll : PollState) : Type 0 where
  pub start : ℤ
  pub first : slice_get p.readings 0 ≡ Some start
  pub fits : TimeoutFits p.timeout
  pub in_range : IsTimestampNanos (start +ℤ pos p.timeout)
  pub so_far : map Some xs ≡ reading_at p 0 ∷ rounds p k
  pub interval : poll.interval ≡ interval_after p k
  pub cap : poll.cap ≡ p.cap
  pub deadline : poll.deadline ≡ start +ℤ pos p.timeout
  pub left : poll.polls_left + k ≡ p.max_polls
  pub some_left : 0 < poll.polls_left
  pub earlier : (i : ℕ) → 1 ≤ i → i ≤ k → GoesOn p i
  pub readings_there : k < length p.readings
  pub answers_there : k ≤ length p.answers

same_some : {A : Type 0} (x y : A) (o : Option A) → o ≡ Some x → o ≡ Some y → x ≡ y
same_some {A} x y o h k = let e : Some x ≡ Some y = sym h ∙ k in cc

pub reached : (p : PollInput) (k : ℕ) (xs : List TraceEvent) (poll : PollState) → IsOpen p k xs poll → IsReached p (suc k)
reached p k xs poll o =
    record {
      fits = o.fits;
      in_range = λ start h. subst (λ (s : ℤ). IsTimestampNanos (s +ℤ pos p.timeout)) (same_some o.start start _ o.first h) o.in_range;
      from_one = omega arith;
      earlier = λ i one below. o.earlier i one (omega arith);
    }

pub late : (p : PollInput) (k : ℕ) (xs : List TraceEvent) (poll : PollState) (t : ℤ) → IsOpen p k xs poll → slice_get p.readings (suc k) ≡ Some t → poll.deadline <ℤ t → IsLate p (suc k)
late p k xs poll t o here after =
    record { start = o.start; moment = t; first = o.first; here = here; after = subst (λ (d : ℤ). d <ℤ t) o.deadline after }

pub not_late : (p : PollInput) (k : ℕ) (xs : List TraceEvent) (poll : PollState) (t : ℤ) → IsOpen p k xs poll → slice_get p.readings (suc k) ≡ Some t → (poll.deadline <ℤ t → ⊥) → IsLate p (suc k) → ⊥
not_late p k xs poll t o here before l =
    before (rw (o.deadline, same_some o.start l.start _ o.first l.first, same_some t l.moment _ here l.here) l.after)

-- the start
pub open_start : (p : PollInput) (t : ℤ) (poll : PollState) → slice_get p.readings 0 ≡ Some t → TimeoutFits p.timeout → IsTimestampNanos (t +ℤ pos p.timeout) → 0 < p.max_polls → poll ≡ record { interval = p.interval; cap = p.cap; deadline = t +ℤ pos p.timeout; polls_left = p.max_polls } → IsOpen p 0 (Reading t ∷ []) poll
open_start p t poll first fits in_range some_left is =
    record {
      start = t;
      first = first;
      fits = fits;
      in_range = in_range;
      so_far = rw first refl;
      interval = ap (λ (s : PollState). s.interval) is;
      cap = ap (λ (s : PollState). s.cap) is;
      deadline = ap (λ (s : PollState). s.deadline) is;
      left = let e : poll.polls_left ≡ p.max_polls = ap (λ (s : PollState). s.polls_left) is in omega arith;
      some_left = let e : poll.polls_left ≡ p.max_polls = ap (λ (s : PollState). s.polls_left) is in omega arith;
      earlier = λ i one none. absurd (omega arith);
      readings_there = slice_get_within p.readings 0 t first;
      answers_there = omega arith;
    }

one_less : (k : ℕ) → suc k - 1 ≡ k
one_less k = omega arith

-- a late reading
pub late_plan : (p : PollInput) (k : ℕ) (xs : List TraceEvent) (poll : PollState) (t : ℤ) → IsOpen p k xs poll → slice_get p.readings (suc k) ≡ Some t → map Some (xs ++ Reading t ∷ []) ≡ poll_events p (Late (suc k))
late_plan p k xs poll t o here = rw (map-append, o.so_far, one_less, here) refl

-- the last answer
pub decided_plan : (p : PollInput) (k : ℕ) (xs : List TraceEvent) (poll : PollState) (t : ℤ) (a : PollAnswer) → IsOpen p k xs poll → slice_get p.readings (suc k) ≡ Some t → slice_get p.answers k ≡ Some a → map Some (xs ++ Reading t ∷ Asked ∷ Answered a ∷ []) ≡ poll_events p (Decided (suc k))
decided_plan p k xs poll t a o here answer = rw (map-append, o.so_far, one_less, here, answer) refl

pub next_interval_is : (p : PollInput) (k : ℕ) (a : PollAnswer) → slice_get p.answers k ≡ Some a → interval_after p (suc k) ≡ next_interval p.cap (interval_after p k) a
next_interval_is p k a answer = rw (take_one_more p.answers k a answer, fold-append) refl

-- what holds from one to k, and after k
pub by_last : (k : ℕ) (P : ℕ → Type 0) → ((i : ℕ) → 1 ≤ i → i ≤ k → P i) → P (suc k) → (i : ℕ) → 1 ≤ i → i ≤ suc k → P i
by_last k P before here i one below =
    elim (dec_le i k) [ yes h ↦ before i one h | no h ↦ let e : suc k ≡ i = omega arith in subst P e here ]

-- a round that doesn't end it
pub open_next : (p : PollInput) (k : ℕ) (xs : List TraceEvent) (poll : PollState) (t : ℤ) (a : PollAnswer) → IsOpen p k xs poll → slice_get p.readings (suc k) ≡ Some t → slice_get p.answers k ≡ Some a → (poll.deadline <ℤ t → ⊥) → a ≢ Deciding → poll.polls_left ≢ 1 → IsOpen p (suc k) (xs ++ Reading t ∷ Asked ∷ Answered a ∷ Slept (state_after poll a).interval ∷ []) (state_after poll a)
open_next p k xs poll t a o here answer before open_answer more =
    let here_goes : GoesOn p (suc k) = record {
      in_time = not_late p k xs poll t o here before;
      open_answer = λ d. open_answer (same_some a Deciding _ answer d);
      below = λ e. more (let l = o.left in omega arith);
    } in
    let step : (state_after poll a).interval ≡ interval_after p (suc k) = ap (λ (c : ℕ). next_interval c poll.interval a) o.cap ∙ ap (λ (d : ℕ). next_interval p.cap d a) o.interval ∙ sym (next_interval_is p k a answer) in
    record {
      start = o.start;
      first = o.first;
      fits = o.fits;
      in_range = o.in_range;
      so_far = rw (map-append, o.so_far, step, here, answer) refl;
      interval = step;
      cap = o.cap;
      deadline = o.deadline;
      left = let l = o.left in let s = o.some_left in omega arith;
      some_left = let s = o.some_left in omega arith;
      earlier = λ i one below. by_last k (GoesOn p) o.earlier here_goes i one below;
      readings_there = slice_get_within p.readings (suc k) t here;
      answers_there = slice_get_within p.answers k a answer;
    }
