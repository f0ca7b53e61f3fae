use Rattle.std.proofs.Common.{rules, map, ◌≤◌}
use Rattle.std.specs.Duration.{as_nanos, max_nanos}
use Rattle.oauth2_poll.specs.Run.{IsRun, run_input, event_of}
use Rattle.oauth2_poll.proofs.Runs.{trace_of_run}
use Rattle.oauth2_poll.proofs.Sleeps.{each_sleep_is_paced}
use Rattle.oauth2_poll.proofs.Requests.{requests_are_bounded}
use Rattle.oauth2_poll.proofs.device_poll.DevicePoll.run.Goals as goal

pub returns-clause-paced : goal.returns-clause-paced
returns-clause-paced c =
    let run : IsRun (run_input c.args.timeout c.args.settings c.args.readings.now c.args.answers.now) (map event_of c.follow.new.trace.items) c.in_ok-end.end = search rules in
    let fits : as_nanos c.args.settings.interval ≤ max_nanos = search rules in
    each_sleep_is_paced _ _ fits (trace_of_run _ _ _ run)

pub returns-clause-bounded : goal.returns-clause-bounded
returns-clause-bounded c =
    let run : IsRun (run_input c.args.timeout c.args.settings c.args.readings.now c.args.answers.now) (map event_of c.follow.new.trace.items) c.in_ok-end.end = search rules in
    requests_are_bounded _ _ (trace_of_run _ _ _ run)
