use Rattle.std.proofs.Common.{◌<◌, length, map}
use Rattle.oauth2_poll.specs.Run.{run_input, event_of}
use Rattle.oauth2_poll.proofs.Open.{IsOpen}
use Rattle.oauth2_poll.proofs.run.follow.Given as goal

abbrev pub invariant-rounds : goal.invariant-rounds
invariant-rounds l =
    IsOpen (run_input l.fn.timeout l.fn.settings l.readings l.answers) l.rounds (map event_of l.trace.items) l.poll
    × (l.rounds < length l.readings)

abbrev pub decreases-rounds : goal.decreases-rounds
decreases-rounds l = l.poll.polls_left
