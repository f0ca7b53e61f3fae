-- What `DevicePoll::run` returns for lists of clock readings and answers.
use Rattle.std.specs.Prelude.{◌≡◌, List, map, if◌then◌else◌}
use Rattle.std.specs.declared.time.Duration.{Duration}
use Rattle.std.specs.Duration.{as_nanos}
use Rattle.jiff.specs.Types.{Timestamp}
use Rattle.oauth2_poll.specs.declared.device_poll.PollAnswer.{PollAnswer}
use Rattle.oauth2_poll.specs.declared.device_poll.PollSettings.{PollSettings}
use Rattle.oauth2_poll.specs.declared.run.PollEvent.{PollEvent}
use Rattle.oauth2_poll.specs.declared.run.PollEvent.TheVariants as event
use Rattle.oauth2_poll.specs.declared.run.PollEnd.{PollEnd}
use Rattle.oauth2_poll.specs.declared.run.PollEnd.TheVariants as end
use Rattle.oauth2_poll.specs.Trace.{PollInput, TraceEvent, Reading, Asked, Answered, Slept, Ending, TooLong, OutOfRange, Late, Decided, Limited, IsEnding, poll_events, until_missing, is_whole}

-- an event with its times as numbers (nanoseconds)
abbrev pub event_of : PollEvent → TraceEvent
event_of (event.Reading t) = Reading t.nanosecond
event_of event.Request = Asked
event_of (event.Answer a) = Answered a
event_of (event.Sleep d) = Slept (as_nanos d)

-- the input of a run with its times as numbers (nanoseconds)
abbrev pub run_input : Duration → PollSettings → List Timestamp → List PollAnswer → PollInput
run_input timeout settings readings answers =
    record {
      timeout = as_nanos timeout;
      interval = as_nanos settings.interval;
      cap = as_nanos settings.cap;
      max_polls = settings.max_polls;
      readings = map (λ t. t.nanosecond) readings;
      answers = answers;
    }

-- the end that a run reports for an ending
abbrev pub end_of : Ending → PollEnd
end_of TooLong = end.TimeoutTooLong
end_of OutOfRange = end.DeadlineOutOfRange
end_of (Late n) = end.Expired
end_of (Decided n) = end.Done
end_of (Limited n) = end.Limit

-- the trace has the events of the poll, up to the first one that has no input; the end is that of
-- the poll, or `OutOfInput` if an event has no input
pub record IsRun (p : PollInput) (trace : List TraceEvent) (last : PollEnd) : Type 0 where
  pub ending : Ending
  pub is_ending : IsEnding p ending
  pub events : trace ≡ until_missing (poll_events p ending)
  pub end : last ≡ (if is_whole (poll_events p ending) then end_of ending else end.OutOfInput)
