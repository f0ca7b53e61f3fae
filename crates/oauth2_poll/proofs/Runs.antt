-- The ways out of a run.
use Rattle.std.proofs.Common.{◌≡◌, ◌≢◌, ℕ, suc, ◌-◌, ◌<◌, ◌≤◌, List, [], ◌∷◌, ◌++◌, map, Option, Some, None, refl, ap, sym, ◌∙◌, arith, append_assoc}
use Rattle.std.proofs.lemmas.List.{append-nil}
use Rattle.std.specs.Prelude.{slice_get, ℤ, pos, ◌+ℤ◌, ◌<ℤ◌}
use Rattle.std.proofs.lemmas.List.{map-append}
use Rattle.jiff.specs.Words.{IsTimestampNanos}
use Rattle.oauth2_poll.specs.declared.device_poll.PollAnswer.{PollAnswer}
use Rattle.oauth2_poll.specs.declared.device_poll.PollAnswer.TheVariants.{Deciding}
use Rattle.oauth2_poll.specs.declared.run.PollEnd.{PollEnd}
use Rattle.oauth2_poll.specs.declared.run.PollEnd.TheVariants as end
use Rattle.oauth2_poll.specs.State.{PollState}
use Rattle.oauth2_poll.specs.Step.{TimeoutFits}
use Rattle.oauth2_poll.specs.Trace.{PollInput, TraceEvent, Reading, Asked, Answered, Ending, TooLong, OutOfRange, Late, Decided, Limited, IsEnding, IsReached, reading_at, poll_events}
use Rattle.oauth2_poll.specs.Run.{IsRun, end_of}
use Rattle.oauth2_poll.specs.Laws.{IsTraceOf}
use Rattle.oauth2_poll.proofs.Lists.{until_missing-append, is_whole-append, until_missing_whole, is_whole_whole, until_missing_begins}
use Rattle.oauth2_poll.proofs.Open.{IsOpen, reached, late, not_late, late_plan, decided_plan}
use Rattle.oauth2_poll.proofs.Endings.{ending_from, last_round}
use Rattle.oauth2_poll.proofs.Plans.{goes, reads, an_ending}

-- nothing is missing
whole : (p : PollInput) (xs : List TraceEvent) (e : Ending) → IsEnding p e → map Some xs ≡ poll_events p e → IsRun p xs (end_of e)
whole p xs e is h =
    record {
      ending = e;
      is_ending = is;
      events = rw (← h) (sym (until_missing_whole xs));
      end = rw (← h, is_whole_whole xs) refl;
    }

-- something is missing after these events
short : (p : PollInput) (xs : List TraceEvent) (e : Ending) (rest : List (Option TraceEvent)) → IsEnding p e → poll_events p e ≡ map Some xs ++ None ∷ rest → IsRun p xs end.OutOfInput
short p xs e rest is h =
    record {
      ending = e;
      is_ending = is;
      events = rw (h, until_missing-append xs (None ∷ rest)) (sym (append-nil xs));
      end = rw (h, is_whole-append xs (None ∷ rest)) refl;
    }

pub run_too_long : (p : PollInput) → ¬ (TimeoutFits p.timeout) → IsRun p [] end.TimeoutTooLong
run_too_long p h = whole p [] TooLong h refl

pub run_out_of_range : (p : PollInput) (t : ℤ) → TimeoutFits p.timeout → slice_get p.readings 0 ≡ Some t → ¬ (IsTimestampNanos (t +ℤ pos p.timeout)) → IsRun p (Reading t ∷ []) end.DeadlineOutOfRange
run_out_of_range p t fits first beyond = whole p (Reading t ∷ []) OutOfRange (fits, (t, first, beyond)) (rw first refl)

missing_first : (p : PollInput) (rest : List (Option TraceEvent)) → slice_get p.readings 0 ≡ None → reading_at p 0 ∷ rest ≡ None ∷ rest
missing_first p rest h = rw h refl

no_start : (p : PollInput) (e : Ending) → slice_get p.readings 0 ≡ None → 1 ≤ last_round e → (rest : List (Option TraceEvent)) × (poll_events p e ≡ None ∷ rest)
no_start p TooLong h k = absurd (omega arith)
no_start p OutOfRange h k = absurd (omega arith)
no_start p (Late n) h k = (_, missing_first p _ h)
no_start p (Decided n) h k = (_, missing_first p _ h)
no_start p (Limited n) h k = (_, missing_first p _ h)

pub run_no_reading : (p : PollInput) → TimeoutFits p.timeout → slice_get p.readings 0 ≡ None → 0 < p.max_polls → IsRun p [] end.OutOfInput
run_no_reading p fits none polls =
    let r : IsReached p 1 = record {
      fits = fits;
      in_range = λ s h. (let e : None ≡ Some s = sym none ∙ h in cc);
      from_one = omega arith;
      earlier = λ i one below. absurd (omega arith);
    } in
    let x = ending_from p (p.max_polls - 1) 1 r (omega arith) in
    let n = no_start p x.0 none x.2 in
    short p [] x.0 n.0 x.1 n.1

module _ (p : PollInput) (k : ℕ) (xs : List TraceEvent) (poll : PollState) (o : IsOpen p k xs poll) where
  pub run_no_more_readings : slice_get p.readings (suc k) ≡ None → IsRun p xs end.OutOfInput
  run_no_more_readings none =
      let x = an_ending p k xs poll o in
      let r = reads p k xs poll o x.0 x.1 x.2 in
      short p xs x.0 r.rest x.1 (rw none at r.is)

  module _ (t : ℤ) (here : slice_get p.readings (suc k) ≡ Some t) where
    pub run_late : poll.deadline <ℤ t → IsRun p (xs ++ Reading t ∷ []) end.Expired
    run_late after = whole p _ (Late (suc k)) (reached p k xs poll o, late p k xs poll t o here after) (late_plan p k xs poll t o here)

    pub run_no_more_answers : (poll.deadline <ℤ t → ⊥) → slice_get p.answers k ≡ None → IsRun p (xs ++ Reading t ∷ Asked ∷ []) end.OutOfInput
    run_no_more_answers before none =
        let x = an_ending p k xs poll o in
        let g = goes p k xs poll o x.0 x.1 x.2 (not_late p k xs poll t o here before) in
        short p _ x.0 g.rest x.1 (g.is ∙ rw (map-append, append_assoc, here, none) refl)

    module _ (a : PollAnswer) (there : slice_get p.answers k ≡ Some a) (before : poll.deadline <ℤ t → ⊥) where
      pub run_done : a ≡ Deciding → IsRun p (xs ++ Reading t ∷ Asked ∷ Answered a ∷ []) end.Done
      run_done decides =
          whole p _ (Decided (suc k)) (reached p k xs poll o, not_late p k xs poll t o here before, there ∙ ap (λ (x : PollAnswer). Some x) decides) (decided_plan p k xs poll t a o here there)

      pub run_limit : a ≢ Deciding → poll.polls_left ≡ 1 → IsRun p (xs ++ Reading t ∷ Asked ∷ Answered a ∷ []) end.Limit
      run_limit no_decision one_left =
          let left = o.left in
          whole p _ (Limited (suc k))
          (reached p k xs poll o, not_late p k xs poll t o here before, λ q. no_decision (let w : Some a ≡ Some Deciding = sym there ∙ q in cc), (let z : suc k ≡ p.max_polls = omega (arith, left, one_left) in z))
          (decided_plan p k xs poll t a o here there)

-- what a run did is a trace of the poll
pub trace_of_run : (p : PollInput) (xs : List TraceEvent) (last : PollEnd) → IsRun p xs last → IsTraceOf p xs
trace_of_run p xs last r =
    let b = until_missing_begins (poll_events p r.ending) in
    record { ending = r.ending; is_ending = r.is_ending; rest = b.0; is = b.1 ∙ ap (λ (l : List TraceEvent). map Some l ++ b.0) (sym r.events) }
