-- RFC 8628, 3.5: what one answer does to a poll.
use Rattle.std.specs.Prelude.{ℕ, ◌+◌, ◌-◌, ◌*◌, ◌/◌, ◌≤◌, min, max, nat_le, ◌==◌, if◌then◌else◌}
use Rattle.std.specs.Duration.{as_nanos, max_nanos}
use Rattle.oauth2_poll.specs.declared.device_poll.PollAnswer.{PollAnswer}
use Rattle.oauth2_poll.specs.declared.device_poll.PollAnswer.TheVariants.{Failed, Pending, SlowDown, Deciding}
use Rattle.oauth2_poll.specs.declared.device_poll.PollStep.{PollStep}
use Rattle.oauth2_poll.specs.declared.device_poll.PollStep.TheVariants as step
use Rattle.oauth2_poll.specs.State.{PollState}

-- five seconds in nanoseconds: what a `slow_down` adds to the interval (RFC 8628, 3.5)
abbrev pub slow_down : ℕ
slow_down = 5_000_000_000

-- a timeout of this many nanoseconds has at most 2^63 - 1 whole seconds
abbrev pub TimeoutFits : ℕ → Type 0
TimeoutFits nanos = nanos / 1_000_000_000 ≤ 9_223_372_036_854_775_807

-- twice the interval, or the interval itself if twice is longer than the greatest `Duration`
abbrev pub double : ℕ → ℕ
double interval = if nat_le (interval * 2) max_nanos then interval * 2 else interval

-- the interval after a failed call, given the cap and the interval before it: twice as long, but at
-- most the cap, and never shorter than before
abbrev pub backed_off : ℕ → ℕ → ℕ
backed_off cap interval = max interval (min (double interval) cap)

-- the interval after an answer, given the cap and the interval before it (RFC 8628, 3.5)
abbrev pub next_interval : ℕ → ℕ → PollAnswer → ℕ
next_interval cap interval Failed = backed_off cap interval
next_interval cap interval Pending = interval
next_interval cap interval SlowDown = min max_nanos (interval + slow_down)
next_interval cap interval Deciding = interval

-- the state after an answer
abbrev pub state_after : PollState → PollAnswer → PollState
state_after poll answer =
    record {
      interval = next_interval poll.cap poll.interval answer;
      cap = poll.cap;
      deadline = poll.deadline;
      polls_left = poll.polls_left - 1;
    }

-- what to do after an answer; the length of a sleep is in nanoseconds
pub data Action : Type 0 where
  SleepFor : ℕ → Action
  GiveUp : Action
  Finish : Action

-- a `PollStep` as an action
abbrev pub action_of : PollStep → Action
action_of (step.Sleep duration) = SleepFor (as_nanos duration)
action_of step.Limit = GiveUp
action_of step.Done = Finish

-- what to do after an answer, given the state before it: after the last request there is no sleep
abbrev pub action_after : PollState → PollAnswer → Action
action_after poll Deciding = Finish
action_after poll answer =
    if poll.polls_left == 1 then GiveUp else SleepFor (next_interval poll.cap poll.interval answer)
