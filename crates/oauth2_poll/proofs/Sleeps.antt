-- Which answers come before a sleep in what is planned.
use Rattle.std.proofs.Common.{◌≡◌, ℕ, zero, suc, ◌-◌, List, [], ◌∷◌, ◌++◌, map, take, Option, Some, None, refl, ap, sym, ◌∙◌, append_assoc, ◌⊎◌, inl, inr}
use Rattle.std.specs.Prelude.{slice_get, ℤ}
use Rattle.std.specs.Option.{option_map}
use Rattle.std.proofs.lemmas.List.{map-append}
use Rattle.oauth2_poll.specs.declared.device_poll.PollAnswer.{PollAnswer}
use Rattle.oauth2_poll.specs.Trace.{PollInput, TraceEvent, Reading, Asked, Answered, Slept, Ending, TooLong, OutOfRange, Late, Decided, Limited, answer_in_round, interval_after, reading_at, round, rounds, poll_events, answers_in}
use Rattle.oauth2_poll.specs.Laws.{EachSleepIsPaced}
use Rattle.oauth2_poll.proofs.Lists.{take_one_more}
use Rattle.oauth2_poll.proofs.Extend.{answers_in-append}
use Rattle.oauth2_poll.proofs.Intervals.{is_paced}

-- a sleep after these events, and what follows it
abbrev pub has_sleep : List (Option TraceEvent) → List TraceEvent → ℕ → List (Option TraceEvent) → Type 0
has_sleep xs before sleep rest = xs ≡ map Some before ++ Some (Slept sleep) ∷ rest

-- the sleep of a round comes first
pub record Here (a : Option PollAnswer) (d : ℕ) (back : List TraceEvent) (sleep : ℕ) : Type 0 where
  pub moment : ℤ
  pub answer : PollAnswer
  pub given : a ≡ Some answer
  pub back_is : back ≡ Reading moment ∷ Asked ∷ Answered answer ∷ []
  pub sleep_is : sleep ≡ d

-- it comes after the round
pub record There (a : Option PollAnswer) (d : ℕ) (tail : List (Option TraceEvent)) (back : List TraceEvent) (sleep : ℕ) (rest : List (Option TraceEvent)) : Type 0 where
  pub moment : ℤ
  pub answer : PollAnswer
  pub given : a ≡ Some answer
  pub further : List TraceEvent
  pub back_is : back ≡ Reading moment ∷ Asked ∷ Answered answer ∷ Slept d ∷ further
  pub sleep_later : has_sleep tail further sleep rest

in_round : (r : Option ℤ) (a : Option PollAnswer) (d : ℕ) (tail rest : List (Option TraceEvent)) (back : List TraceEvent) (sleep : ℕ) → has_sleep (option_map Reading r ∷ Some Asked ∷ option_map Answered a ∷ Some (Slept d) ∷ tail) back sleep rest → Here a d back sleep ⊎ There a d tail back sleep rest
in_round None a d tail rest [] sleep h = absurd cc
in_round None a d tail rest (x ∷ back) sleep h = absurd cc
in_round (Some t) a d tail rest [] sleep h = absurd cc
in_round (Some t) a d tail rest (x ∷ []) sleep h = absurd cc
in_round (Some t) None d tail rest (x ∷ y ∷ []) sleep h = absurd cc
in_round (Some t) (Some b) d tail rest (x ∷ y ∷ []) sleep h = absurd cc
in_round (Some t) None d tail rest (x ∷ y ∷ z ∷ back) sleep h = absurd cc
in_round (Some t) (Some b) d tail rest (x ∷ y ∷ z ∷ []) sleep h =
    inl (record { moment = t; answer = b; given = refl; back_is = cc; sleep_is = cc })
in_round (Some t) (Some b) d tail rest (x ∷ y ∷ z ∷ w ∷ further) sleep h =
    inr (record { moment = t; answer = b; given = refl; further = further; back_is = cc; sleep_later = cc })

no_sleep_in_reading : (r : Option ℤ) (before : List TraceEvent) (sleep : ℕ) (rest : List (Option TraceEvent)) → has_sleep (option_map Reading r ∷ []) before sleep rest → ⊥
no_sleep_in_reading None [] sleep rest h = cc
no_sleep_in_reading None (x ∷ before) sleep rest h = cc
no_sleep_in_reading (Some t) [] sleep rest h = cc
no_sleep_in_reading (Some t) (x ∷ []) sleep rest h = cc
no_sleep_in_reading (Some t) (x ∷ y ∷ before) sleep rest h = cc

no_sleep_in_last : (r : Option ℤ) (a : Option PollAnswer) (before : List TraceEvent) (sleep : ℕ) (rest : List (Option TraceEvent)) → has_sleep (option_map Reading r ∷ Some Asked ∷ option_map Answered a ∷ []) before sleep rest → ⊥
no_sleep_in_last None a [] sleep rest h = cc
no_sleep_in_last None a (x ∷ before) sleep rest h = cc
no_sleep_in_last (Some t) a [] sleep rest h = cc
no_sleep_in_last (Some t) a (x ∷ []) sleep rest h = cc
no_sleep_in_last (Some t) None (x ∷ y ∷ []) sleep rest h = cc
no_sleep_in_last (Some t) (Some b) (x ∷ y ∷ []) sleep rest h = cc
no_sleep_in_last (Some t) None (x ∷ y ∷ z ∷ before) sleep rest h = cc
no_sleep_in_last (Some t) (Some b) (x ∷ y ∷ z ∷ []) sleep rest h = cc
no_sleep_in_last (Some t) (Some b) (x ∷ y ∷ z ∷ w ∷ before) sleep rest h = cc

first_is : (r : Option ℤ) (x : TraceEvent) → option_map Reading r ≡ Some x → (t : ℤ) × (x ≡ Reading t)
first_is None x h = absurd cc
first_is (Some t) x h = (t, cc)

module _ (p : PollInput) where
  -- a sleep is that of the round whose answer is the last before it
  pub record IsSleepOf (before : List TraceEvent) (sleep : ℕ) : Type 0 where
    pub round : ℕ
    pub sleep_is : sleep ≡ interval_after p round
    pub answers_are : answers_in before ≡ take round p.answers

  -- it comes after rounds 1 to n
  record IsPast (n : ℕ) (tail : List (Option TraceEvent)) (before : List TraceEvent) (sleep : ℕ) (rest : List (Option TraceEvent)) : Type 0 where
    pub front : List TraceEvent
    pub back : List TraceEvent
    pub split : before ≡ front ++ back
    pub answers_are : answers_in front ≡ take n p.answers
    pub later : has_sleep tail back sleep rest

  one_more_answer : (n : ℕ) (front back : List TraceEvent) (a : PollAnswer) → answers_in front ≡ take n p.answers → slice_get p.answers n ≡ Some a → answers_in back ≡ a ∷ [] → answers_in (front ++ back) ≡ take (suc n) p.answers
  one_more_answer n front back a before here last =
      answers_in-append front back ∙ ap (λ (l : List PollAnswer). l ++ answers_in back) before ∙ ap (λ (l : List PollAnswer). take n p.answers ++ l) last ∙ sym (take_one_more p.answers n a here)

  after_round : (n : ℕ) (tail rest : List (Option TraceEvent)) (before : List TraceEvent) (sleep : ℕ) → IsPast n (round p (suc n) ++ tail) before sleep rest → IsSleepOf before sleep ⊎ IsPast (suc n) tail before sleep rest
  after_round n tail rest before sleep past =
      elim (in_round (slice_get p.readings (suc n)) (slice_get p.answers n) (interval_after p (suc n)) tail rest past.back sleep past.later) [
        | inl h ↦ inl (record {
          round = suc n;
          sleep_is = h.sleep_is;
          answers_are = rw (past.split, h.back_is) (one_more_answer n past.front _ h.answer past.answers_are h.given refl);
        })
        | inr h ↦ inr (record {
          front = past.front ++ Reading h.moment ∷ Asked ∷ Answered h.answer ∷ Slept (interval_after p (suc n)) ∷ [];
          back = h.further;
          split = rw (past.split, h.back_is) (sym (append_assoc past.front _ h.further));
          answers_are = one_more_answer n past.front _ h.answer past.answers_are h.given refl;
          later = h.sleep_later;
        })
      ]

  in_rounds : (n : ℕ) (tail rest : List (Option TraceEvent)) (before : List TraceEvent) (sleep : ℕ) → has_sleep (rounds p n ++ tail) before sleep rest → IsSleepOf before sleep ⊎ IsPast n tail before sleep rest
  in_rounds zero tail rest before sleep h = inr (record { front = []; back = before; split = refl; answers_are = refl; later = h })
  in_rounds (suc n) tail rest before sleep h =
      elim (in_rounds n (round p (suc n) ++ tail) rest before sleep (sym (append_assoc (rounds p n) (round p (suc n)) tail) ∙ h)) [
        | inl s ↦ inl s
        | inr past ↦ after_round n tail rest before sleep past
      ]

  in_plan : (n : ℕ) (tail rest : List (Option TraceEvent)) (before : List TraceEvent) (sleep : ℕ) → ((back : List TraceEvent) → has_sleep tail back sleep rest → ⊥) → has_sleep (reading_at p 0 ∷ (rounds p n ++ tail)) before sleep rest → IsSleepOf before sleep
  in_plan n tail rest [] sleep none h = absurd (let e = first_is (slice_get p.readings 0) (Slept sleep) cc in let q = e.1 in cc)
  in_plan n tail rest (x ∷ before) sleep none h =
      let first = first_is (slice_get p.readings 0) x cc in
      elim (in_rounds n tail rest before sleep cc) [
        | inl s ↦ record { round = s.round; sleep_is = s.sleep_is; answers_are = rw first.1 s.answers_are }
        | inr past ↦ absurd (none past.back past.later)
      ]

  pub sleep_of : (e : Ending) (before : List TraceEvent) (sleep : ℕ) (rest : List (Option TraceEvent)) → has_sleep (poll_events p e) before sleep rest → IsSleepOf before sleep
  sleep_of TooLong [] sleep rest h = absurd cc
  sleep_of TooLong (x ∷ before) sleep rest h = absurd cc
  sleep_of OutOfRange before sleep rest h = absurd (no_sleep_in_reading (slice_get p.readings 0) before sleep rest h)
  sleep_of (Late n) before sleep rest h =
      in_plan (n - 1) _ rest before sleep (λ back k. no_sleep_in_reading (slice_get p.readings n) back sleep rest k) h
  sleep_of (Decided n) before sleep rest h =
      in_plan (n - 1) _ rest before sleep (λ back k. no_sleep_in_last (slice_get p.readings n) (answer_in_round p.answers n) back sleep rest k) h
  sleep_of (Limited n) before sleep rest h =
      in_plan (n - 1) _ rest before sleep (λ back k. no_sleep_in_last (slice_get p.readings n) (answer_in_round p.answers n) back sleep rest k) h

pub each_sleep_is_paced : EachSleepIsPaced
each_sleep_is_paced p trace m t before after sleep is =
    let s = sleep_of p t.ending before sleep (map Some after ++ t.rest) (t.is ∙ rw (is, map-append, append_assoc) refl) in
    rw (s.sleep_is, s.answers_are) (is_paced p.cap p.interval (take s.round p.answers) m)
