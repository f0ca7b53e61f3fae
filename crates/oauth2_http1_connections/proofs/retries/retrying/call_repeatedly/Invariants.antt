use Rattle.std.specs.Duration.{as_nanos}
use Rattle.oauth2_http1_connections.specs.retries.Limits.{limits_of}
use Rattle.oauth2_http1_connections.proofs.retries.Turns.{SoFar}
use Rattle.oauth2_http1_connections.proofs.retries.retrying.call_repeatedly.Given as goal

abbrev pub invariant-tries : goal.invariant-tries
invariant-tries g l = record {
  ready : g.C.SyncHttpClient.is_ready l.client;
  so_far : SoFar g.C.SyncHttpClient.step g.C.SleepingClient.sleeps g.C.Error.TellsUnsent.unsent (limits_of l.fn.limits) l.request l.initial.client l.client l.left (as_nanos l.wait);
}

abbrev pub decreases-tries : goal.decreases-tries
decreases-tries g l = l.left
