use Rattle.std.proofs.Common.{rules, ◌≤◌, ap, ◌∙◌}
use Rattle.std.specs.Prelude.{min}
use Rattle.std.specs.Duration.{as_nanos, max_nanos}
use Rattle.oauth2_http1_connections.specs.retries.Limits.{limits_of}
use Rattle.oauth2_http1_connections.proofs.retries.Turns.{none_yet, one_more, cut_short, answered, spent}
use Rattle.oauth2_http1_connections.proofs.retries.retrying.call_repeatedly.Goals as goal

pub tries-init : goal.tries-init
tries-init g c = record {
  ready = c.requires;
  so_far = none_yet g.C.SyncHttpClient.step g.C.SleepingClient.sleeps g.C.Error.TellsUnsent.unsent (limits_of c.args.limits) c.args.request c.args.client.now;
}

pub returns-in_default-clause-calls : goal.returns-in_default-clause-calls
returns-in_default-clause-calls g c =
    cut_short g.C.SyncHttpClient.step g.C.SleepingClient.sleeps g.C.Error.TellsUnsent.unsent (limits_of c.args.limits) c.args.request c.args.client.now
    c.tries.client c.call.new.self c.tries.left (as_nanos c.tries.wait) c.call.result c.tries.invariant.so_far c.tries-test.true c.call.ensures.step

pub returns-in-Some-clause-calls : goal.returns-in-Some-clause-calls
returns-in-Some-clause-calls g c =
    answered g.C.SyncHttpClient.step g.C.SleepingClient.sleeps g.C.Error.TellsUnsent.unsent (limits_of c.args.limits) c.args.request c.args.client.now
    c.tries.client c.last_answer.new.client c.tries.left (as_nanos c.tries.wait) c.in-Ok.copy c.in-Some.answer c.tries.invariant.so_far c.in-Ok.ensures.copy
    c.in-Some.ensures.answer

pub tries-preserved : goal.tries-preserved
tries-preserved g c =
    let fits : as_nanos c.args.limits.most_wait ≤ max_nanos = search rules in
    record {
      ready = c.last_answer.ensures.ready;
      so_far = one_more g.C.SyncHttpClient.step g.C.SleepingClient.sleeps g.C.Error.TellsUnsent.unsent (limits_of c.args.limits) c.args.request c.args.client.now
          c.tries.client c.last_answer.new.client c.tries.left (as_nanos c.tries.wait) (as_nanos c.shorter-wait.result) c.in-Ok.copy c.tries.invariant.so_far
          c.tries-test.true c.in-Ok.ensures.copy c.in_default-last_answer.ensures.answer fits
          (c.shorter-wait.ensures ∙ ap (min (as_nanos c.args.limits.most_wait)) c.saturating_mul.ensures);
    }

pub returns-clause-calls : goal.returns-clause-calls
returns-clause-calls g c =
    spent g.C.SyncHttpClient.step g.C.SleepingClient.sleeps g.C.Error.TellsUnsent.unsent (limits_of c.args.limits) c.args.request c.args.client.now
    c.tries.client c.call-2.new.self c.tries.left (as_nanos c.tries.wait) c.call-2.result c.tries.invariant.so_far c.tries-test.false c.call-2.ensures.step
