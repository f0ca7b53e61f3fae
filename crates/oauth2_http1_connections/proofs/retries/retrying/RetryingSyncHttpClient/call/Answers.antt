use Rattle.std.proofs.Common.{◌≡◌, subst, ap}
use Rattle.oauth2_http1_connections.specs.retries.Limits.{limits_of}
use Rattle.oauth2_http1_connections.specs.retries.Repeats.{Repeats}
use Rattle.oauth2_http1_connections.proofs.retries.retrying.RetryingSyncHttpClient.call.Goals as goal

pub returns-clause-step : goal.returns-clause-step
returns-clause-step g c =
    let step = g.C.SyncHttpClient.step in
    let sleeps = g.C.SleepingClient.sleeps in
    let unsent = g.C.Error.TellsUnsent.unsent in
    let client_is : c.self.inside.client ≡ c.args.self.now.client = ap (λ r. r.client) c.self.view_is in
    let limits_is : limits_of c.self.inside.limits ≡ c.args.self.now.limits = ap (λ r. r.limits) c.self.view_is in
    let made = c.call_repeatedly-answer.ensures.calls in (
      subst (λ limits. Repeats step sleeps unsent limits c.args.self.now.client c.args.request c.call_repeatedly-answer.result.0 c.call_repeatedly-answer.new.client c.call_repeatedly-answer.result.1) limits_is
          (subst (λ client. Repeats step sleeps unsent (limits_of c.self.inside.limits) client c.args.request c.call_repeatedly-answer.result.0 c.call_repeatedly-answer.new.client c.call_repeatedly-answer.result.1) client_is made),
      limits_is,
    )
