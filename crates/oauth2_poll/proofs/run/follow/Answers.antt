use Rattle.std.proofs.Common.{rules, ◌≡◌, ◌+◌, ℕ, suc, [], ◌∷◌, ◌++◌, map, refl, sym, ◌∙◌, add-one, inl, ap, subst}
use Rattle.std.specs.Prelude.{◌<ℤ◌, ◌+ℤ◌, pos}
use Rattle.std.specs.Duration.{as_nanos}
use Rattle.std.proofs.lemmas.Option.{slice_get_within}
use Rattle.jiff.specs.Words.{IsTimestampNanos}
use Rattle.oauth2_poll.specs.Step.{TimeoutFits, state_after, action_of, GiveUp, Finish, SleepFor}
use Rattle.oauth2_poll.specs.Run.{run_input, event_of}
use Rattle.oauth2_poll.specs.Trace.{Reading, Asked, Answered, Slept}
use Rattle.oauth2_poll.proofs.Open.{IsOpen, open_start, open_next}
use Rattle.oauth2_poll.proofs.Steps.{not_decided, limit_step, done_step, sleep_step}
use Rattle.oauth2_poll.proofs.Inputs.{moment_at, no_moment_at, pushed_one, pushed_two, pushed_three, pushed_four}
use Rattle.oauth2_poll.proofs.Runs.{run_out_of_range, run_no_reading, run_no_more_readings, run_late, run_no_more_answers, run_done, run_limit}
use Rattle.oauth2_poll.proofs.run.follow.Goals as goal

pub returns-in_default : goal.returns-in_default
returns-in_default c =
    let fits : TimeoutFits (as_nanos c.args.timeout) = search rules in
    let none = no_moment_at c.args.readings.now 0 (sym c.reading_at.ensures ∙ c.in_default.is) in
    rw c.requires.empty (run_no_reading _ fits none c.requires.polls)

pub returns-in_default-new : goal.returns-in_default-new
returns-in_default-new c =
    let fits : TimeoutFits (as_nanos c.args.timeout) = search rules in
    let first = moment_at c.args.readings.now 0 c.in-Some.start (sym c.in-Some.ensures) in
    rw (pushed_one event_of _ _ _ c.in_ok-push.ensures.items, c.requires.empty)
    (run_out_of_range _ c.in-Some.start.nanosecond fits first (λ r. (let x = rw c.in_default-new.is at (c.new.ensures.variant.1 r) in cc)))

pub rounds-init : goal.rounds-init
rounds-init c =
    let fits : TimeoutFits (as_nanos c.args.timeout) = search rules in
    let there = sym c.in-Some.ensures in
    let first = moment_at c.args.readings.now 0 c.in-Some.start there in
    let in_range : IsTimestampNanos (c.in-Some.start.nanosecond +ℤ pos (as_nanos c.args.timeout)) = search rules in (
      rw (pushed_one event_of _ _ _ c.in_ok-push.ensures.items, c.requires.empty)
          (open_start _ c.in-Some.start.nanosecond _ first fits in_range c.requires.polls c.in-Some-new.ensures.value),
      slice_get_within c.args.readings.now 0 c.in-Some.start there,
    )

pub returns-in_default-reading_at : goal.returns-in_default-reading_at
returns-in_default-reading_at c =
    let none = no_moment_at c.args.readings.now (c.rounds.rounds + 1) (sym c.reading_at-in-rounds.ensures ∙ c.in_default-reading_at.is) in
    run_no_more_readings _ c.rounds.rounds _ _ c.rounds.invariant.0 (rw add-one at none)

pub returns-in-Expired : goal.returns-in-Expired
returns-in-Expired c =
    let r = c.rounds.rounds in
    let t = c.in-Some-reading_at.now in
    let here = rw add-one at (moment_at c.args.readings.now (r + 1) t (sym c.in-Some-reading_at.ensures)) in
    rw (pushed_one event_of _ _ _ c.in_ok-push-2.ensures.items) (run_late _ r _ _ c.rounds.invariant.0 _ here (c.in-Expired.ensures.0 refl))

pub returns-in_default-answer_at : goal.returns-in_default-answer_at
returns-in_default-answer_at c =
    let r = c.rounds.rounds in
    let t = c.in-Some-reading_at.now in
    let here = rw add-one at (moment_at c.args.readings.now (r + 1) t (sym c.in-Some-reading_at.ensures)) in
    let before : c.rounds.poll.deadline <ℤ t.nanosecond → ⊥ = λ b. (let x = c.in-Ask.ensures.1 b in cc) in
    rw (pushed_two event_of _ _ _ _ _ c.in_ok-push-2.ensures.items c.in_ok-push-3.ensures.items)
    (run_no_more_answers _ r _ _ c.rounds.invariant.0 _ here before (sym c.answer_at.ensures ∙ c.in_default-answer_at.is))

pub returns-in-Limit : goal.returns-in-Limit
returns-in-Limit c =
    let r = c.rounds.rounds in
    let t = c.in-Some-reading_at.now in
    let here = rw add-one at (moment_at c.args.readings.now (r + 1) t (sym c.in-Some-reading_at.ensures)) in
    let before : c.rounds.poll.deadline <ℤ t.nanosecond → ⊥ = λ b. (let x = c.in-Ask.ensures.1 b in cc) in
    let a = c.in-Some-answer_at.answer in
    let s = c.answer.result in
    let step = c.answer.ensures.step in
    let is = c.in-Limit.is in
    let no_decision = not_decided c.rounds.poll a s step (λ e. (let q : GiveUp ≡ Finish = ap action_of (sym is) ∙ e in cc)) in
    let one_left = limit_step c.rounds.poll a s no_decision step (inl is) in
    rw (pushed_three event_of _ _ _ _ _ _ _ c.in_ok-push-2.ensures.items c.in_ok-push-3.ensures.items c.in_ok-push-4.ensures.items)
    (run_limit _ r _ _ c.rounds.invariant.0 _ here a (sym c.in-Some-answer_at.ensures) before no_decision one_left)

pub returns-in-Done : goal.returns-in-Done
returns-in-Done c =
    let r = c.rounds.rounds in
    let t = c.in-Some-reading_at.now in
    let here = rw add-one at (moment_at c.args.readings.now (r + 1) t (sym c.in-Some-reading_at.ensures)) in
    let before : c.rounds.poll.deadline <ℤ t.nanosecond → ⊥ = λ b. (let x = c.in-Ask.ensures.1 b in cc) in
    let a = c.in-Some-answer_at.answer in
    rw (pushed_three event_of _ _ _ _ _ _ _ c.in_ok-push-2.ensures.items c.in_ok-push-3.ensures.items c.in_ok-push-4.ensures.items)
    (run_done _ r _ _ c.rounds.invariant.0 _ here a (sym c.in-Some-answer_at.ensures) before (done_step c.rounds.poll a c.answer.result c.answer.ensures.step c.in-Done.is))

pub rounds-preserved : goal.rounds-preserved
rounds-preserved c =
    let r = c.rounds.rounds in
    let t = c.in-Some-reading_at.now in
    let there = sym c.in-Some-reading_at.ensures in
    let here = rw add-one at (moment_at c.args.readings.now (r + 1) t there) in
    let before : c.rounds.poll.deadline <ℤ t.nanosecond → ⊥ = λ b. (let x = c.in-Ask.ensures.1 b in cc) in
    let a = c.in-Some-answer_at.answer in
    let s = c.answer.result in
    let step = c.answer.ensures.step in
    let is = c.in-Sleep.is in
    let no_decision = not_decided c.rounds.poll a s step (λ e. (let q : SleepFor (as_nanos c.in-Sleep.interval) ≡ Finish = ap action_of (sym is) ∙ e in cc)) in
    let k = sleep_step c.rounds.poll a s c.in-Sleep.interval no_decision step is in
    let n = open_next _ r _ _ _ a c.rounds.invariant.0 here (sym c.in-Some-answer_at.ensures) before no_decision k.0 in (
      rw (add-one, c.answer.ensures.state, pushed_four event_of _ _ _ _ _ _ _ _ _ c.in_ok-push-2.ensures.items c.in_ok-push-3.ensures.items c.in_ok-push-4.ensures.items c.in_ok-push-in-Sleep.ensures.items)
          (subst (λ (x : ℕ). IsOpen (run_input c.args.timeout c.args.settings c.args.readings.now c.args.answers.now) (suc r) (map event_of c.rounds.trace.items ++ Reading t.nanosecond ∷ Asked ∷ Answered a ∷ Slept x ∷ []) (state_after c.rounds.poll a)) (sym k.1) n),
      slice_get_within c.args.readings.now (r + 1) t there,
    )
