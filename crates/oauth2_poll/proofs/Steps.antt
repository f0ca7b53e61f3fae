-- What a step of the machine says of the state before it.
use Rattle.std.proofs.Common.{◌≡◌, ◌≢◌, ◌⊎◌, inl, inr, ℕ, Bool, true, false, refl, ap, sym, ◌∙◌, arith}
use Rattle.std.specs.Prelude.{◌==◌, if◌then◌else◌}
use Rattle.std.specs.Duration.{as_nanos}
use Rattle.std.specs.declared.time.Duration.{Duration}
use Rattle.std.proofs.lemmas.Bool.Decides.{nat_tests}
use Rattle.oauth2_poll.specs.declared.device_poll.PollAnswer.{PollAnswer}
use Rattle.oauth2_poll.specs.declared.device_poll.PollAnswer.TheVariants.{Failed, Pending, SlowDown, Deciding}
use Rattle.oauth2_poll.specs.declared.device_poll.PollStep.{PollStep}
use Rattle.oauth2_poll.specs.declared.device_poll.PollStep.TheVariants as step
use Rattle.oauth2_poll.specs.State.{PollState}
use Rattle.oauth2_poll.specs.Step.{Action, SleepFor, GiveUp, Finish, action_of, action_after, state_after}

by_test : (b : Bool) (n : ℕ) (x : Action) → x ≡ (if b then GiveUp else SleepFor n) → ((b ≡ true) × (x ≡ GiveUp)) ⊎ ((b ≡ false) × (x ≡ SleepFor n))
by_test true n x h = inl (refl, h)
by_test false n x h = inr (refl, h)

-- after an answer that doesn't decide there is a limit or a sleep
pub by_count : (poll : PollState) (a : PollAnswer) (x : Action) → a ≢ Deciding → x ≡ action_after poll a → (((poll.polls_left == 1) ≡ true) × (x ≡ GiveUp)) ⊎ (((poll.polls_left == 1) ≡ false) × (x ≡ SleepFor (state_after poll a).interval))
by_count poll Failed x n h = by_test _ _ x h
by_count poll Pending x n h = by_test _ _ x h
by_count poll SlowDown x n h = by_test _ _ x h
by_count poll Deciding x n h = absurd (n refl)

pub sleep_step : (poll : PollState) (a : PollAnswer) (s : PollStep) (d : Duration) → a ≢ Deciding → action_of s ≡ action_after poll a → s ≡ step.Sleep d → (poll.polls_left ≢ 1) × (as_nanos d ≡ (state_after poll a).interval)
sleep_step poll a s d n h is =
    let same : SleepFor (as_nanos d) ≡ action_of s = ap action_of (sym is) in
    elim (by_count poll a (action_of s) n h) [
      | inl w ↦ (let e : SleepFor (as_nanos d) ≡ GiveUp = same ∙ w.1 in cc)
      | inr w ↦ ((λ one. let t = w.0 in let u = rw one at t in cc), let e : SleepFor (as_nanos d) ≡ SleepFor (state_after poll a).interval = same ∙ w.1 in cc)
    ]

pub limit_step : (poll : PollState) (a : PollAnswer) (s : PollStep) → a ≢ Deciding → action_of s ≡ action_after poll a → (s ≡ step.Limit) ⊎ (s ≡ step.Done) → poll.polls_left ≡ 1
limit_step poll a s n h is =
    elim (by_count poll a (action_of s) n h) [
      | inl w ↦ (let t = w.0 in grind (arith, nat_tests, t))
      | inr w ↦ elim is [
        | inl l ↦ (let e : GiveUp ≡ SleepFor (state_after poll a).interval = ap action_of (sym l) ∙ w.1 in cc)
        | inr l ↦ (let e : Finish ≡ SleepFor (state_after poll a).interval = ap action_of (sym l) ∙ w.1 in cc)
      ]
    ]

-- a step that isn't `Done` has an answer that doesn't decide
pub not_decided : (poll : PollState) (a : PollAnswer) (s : PollStep) → action_of s ≡ action_after poll a → action_of s ≢ Finish → a ≢ Deciding
not_decided poll a s h not_done e = not_done (rw e at h)

not_limit_or_sleep : {A B : Type 0} {n : ℕ} {x : Action} → ((A × (x ≡ GiveUp)) ⊎ (B × (x ≡ SleepFor n))) → x ≡ Finish → ⊥
not_limit_or_sleep {A} {B} {n} {x} w e =
    elim w [ inl h ↦ (let q : GiveUp ≡ Finish = sym h.1 ∙ e in cc) | inr h ↦ (let q : SleepFor n ≡ Finish = sym h.1 ∙ e in cc) ]

pub done_step : (poll : PollState) (a : PollAnswer) (s : PollStep) → action_of s ≡ action_after poll a → s ≡ step.Done → a ≡ Deciding
done_step poll Deciding s h is = refl
done_step poll Failed s h is = absurd (not_limit_or_sleep (by_count poll Failed (action_of s) (λ e. cc) h) (ap action_of is))
done_step poll Pending s h is = absurd (not_limit_or_sleep (by_count poll Pending (action_of s) (λ e. cc) h) (ap action_of is))
done_step poll SlowDown s h is = absurd (not_limit_or_sleep (by_count poll SlowDown (action_of s) (λ e. cc) h) (ap action_of is))
