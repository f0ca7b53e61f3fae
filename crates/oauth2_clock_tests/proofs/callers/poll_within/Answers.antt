use Rattle.std.proofs.Common.{map}
use Rattle.std.proofs.lemmas.Result.{IfOk-weaker}
use Rattle.std.specs.Duration.{as_nanos}
use Rattle.oauth2_poll.specs.Run.{event_of}
use Rattle.oauth2_poll.proofs.Requests.{few_requests}
use Rattle.oauth2_clock_tests.proofs.callers.poll_within.Goals as goal

pub returns : goal.returns
returns c =
    IfOk-weaker c.run.result _ _
    (λ run fit honest. few_requests (as_nanos c.args.timeout) (as_nanos c.args.settings.interval) (map event_of run.trace.items) c.requires.interval (fit honest)) c.run.ensures.bounded
