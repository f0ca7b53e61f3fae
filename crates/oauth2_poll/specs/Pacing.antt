-- The bounds that a poll keeps, stated over its trace: how long each sleep is, and how many
-- requests fit the timeout.
use Rattle.std.specs.Prelude.{◌≡◌, ℕ, zero, suc, ◌+◌, ◌-◌, ◌*◌, ◌≤◌, min, max, List, [], ◌∷◌, ◌++◌, take, ℤ, pos, ◌+ℤ◌, ◌≤ℤ◌}
use Rattle.std.specs.Duration.{max_nanos}
use Rattle.oauth2_poll.specs.declared.device_poll.PollAnswer.{PollAnswer}
use Rattle.oauth2_poll.specs.declared.device_poll.PollAnswer.TheVariants.{Failed, Pending, SlowDown, Deciding}
use Rattle.oauth2_poll.specs.Step.{slow_down}
use Rattle.oauth2_poll.specs.Trace.{TraceEvent, Reading, Asked, Answered, Slept, readings_in, answers_in}

-- how many of the answers are `slow_down`
abbrev pub slow_downs : List PollAnswer → ℕ
slow_downs [] = 0
slow_downs (Failed ∷ answers) = slow_downs answers
slow_downs (Pending ∷ answers) = slow_downs answers
slow_downs (SlowDown ∷ answers) = slow_downs answers + 1
slow_downs (Deciding ∷ answers) = slow_downs answers

-- how many of the answers are failed calls
abbrev pub failures : List PollAnswer → ℕ
failures [] = 0
failures (Failed ∷ answers) = failures answers + 1
failures (Pending ∷ answers) = failures answers
failures (SlowDown ∷ answers) = failures answers
failures (Deciding ∷ answers) = failures answers

-- the length of a sleep after these answers, in nanoseconds (RFC 8628, 3.5): at least the interval
-- plus five seconds for each `slow_down`, and exactly that if no call has failed; at most the
-- longer of interval and cap, plus the same seconds. No bound is more than the greatest `Duration`.
pub record IsPaced (interval cap : ℕ) (answers : List PollAnswer) (sleep : ℕ) : Type 0 where
  pub at_least : min max_nanos (interval + slow_down * slow_downs answers) ≤ sleep
  pub at_most : sleep ≤ min max_nanos (max interval cap + slow_down * slow_downs answers)
  pub exact : failures answers ≡ 0 → sleep ≡ min max_nanos (interval + slow_down * slow_downs answers)

-- each sleep in a trace is within the bounds that follow from the answers before it
abbrev pub SleepsArePaced : ℕ → ℕ → List TraceEvent → Type 0
SleepsArePaced interval cap trace =
    (before after : List TraceEvent) (sleep : ℕ) → trace ≡ before ++ Slept sleep ∷ after → IsPaced interval cap (answers_in before) sleep

-- how many requests the trace has
abbrev pub requests_in : List TraceEvent → ℕ
requests_in [] = 0
requests_in (Reading t ∷ events) = requests_in events
requests_in (Asked ∷ events) = requests_in events + 1
requests_in (Answered a ∷ events) = requests_in events
requests_in (Slept d ∷ events) = requests_in events

-- the sum of the sleeps, in nanoseconds
abbrev pub slept_in : List TraceEvent → ℕ
slept_in [] = 0
slept_in (Reading t ∷ events) = slept_in events
slept_in (Asked ∷ events) = slept_in events
slept_in (Answered a ∷ events) = slept_in events
slept_in (Slept d ∷ events) = d + slept_in events

-- the clock is honest: from one reading to the next it advances at least as long as the poll slept
-- between them
abbrev pub ClockIsHonest : List TraceEvent → Type 0
ClockIsHonest trace =
    (before between after : List TraceEvent) (s t : ℤ) →
    trace ≡ before ++ Reading s ∷ (between ++ Reading t ∷ after) →
    readings_in between ≡ [] →
    (s +ℤ pos (slept_in between)) ≤ℤ t

-- how many `slow_down`s came before each of the sleeps 1 to n, added up
abbrev pub slow_downs_to : List PollAnswer → ℕ → ℕ
slow_downs_to answers zero = 0
slow_downs_to answers (suc n) = slow_downs_to answers n + slow_downs (take (suc n) answers)

-- the waits before the last request fit the timeout: an interval for each request after the first,
-- and five seconds for each `slow_down` before each of these waits
abbrev pub RequestsFit : ℕ → ℕ → List TraceEvent → Type 0
RequestsFit timeout interval trace =
    (requests_in trace - 1) * interval + slow_down * slow_downs_to (answers_in trace) (requests_in trace - 1) ≤ timeout
