-- Laws of every poll, whatever runs it, stated over its trace.
use Rattle.std.specs.Prelude.{◌≡◌, ◌≤◌, List, ◌++◌, map, Option, Some}
use Rattle.std.specs.Duration.{max_nanos}
use Rattle.oauth2_poll.specs.Trace.{PollInput, TraceEvent, Ending, IsEnding, poll_events}
use Rattle.oauth2_poll.specs.Pacing.{SleepsArePaced, ClockIsHonest, RequestsFit}

-- a poll has only one ending: one way to end, in one round
abbrev pub EachEndingIsTheOnlyOne : Type 0
EachEndingIsTheOnlyOne = (p : PollInput) (ending other : Ending) → IsEnding p ending → IsEnding p other → ending ≡ other

-- the trace has all events of the poll, or the first of them
pub record IsTraceOf (p : PollInput) (trace : List TraceEvent) : Type 0 where
  pub ending : Ending
  pub is_ending : IsEnding p ending
  pub rest : List (Option TraceEvent)
  pub is : poll_events p ending ≡ map Some trace ++ rest

-- each sleep in a trace of a poll is within its bounds
abbrev pub EachSleepIsPaced : Type 0
EachSleepIsPaced = (p : PollInput) (trace : List TraceEvent) → p.interval ≤ max_nanos → IsTraceOf p trace → SleepsArePaced p.interval p.cap trace

-- if the clock is honest, the requests of each poll fit its timeout
abbrev pub RequestsAreBounded : Type 0
RequestsAreBounded =
    (p : PollInput) (trace : List TraceEvent) → IsTraceOf p trace → ClockIsHonest trace → RequestsFit p.timeout p.interval trace
