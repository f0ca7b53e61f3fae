use Rattle.std.proofs.Common.{rules}
use Rattle.oauth2_wire.specs.Once.{AsksOnce}
use Rattle.oauth2_wire.specs.Reply.{answer_of}
use Rattle.oauth2_shared_login.proofs.Requesting.{requests_by}
use Rattle.oauth2_shared_login.proofs.login_refresher.LoginRefresher.refresh_by.Goals as goal

pub returns-then-is_understood-clause-refreshes : goal.returns-then-is_understood-clause-refreshes
returns-then-is_understood-clause-refreshes g c = (
  c.now-now.result,
  c.in-Ok.response,
  (
    c.now-now.new.self,
    c.now-now.ensures.reads,
    requests_by (λ rule. AsksOnce g.TR.FromJson.meaning g.TE.FromJson.meaning g.W.SyncHttpClient.step (answer_of rule g.TR.FromJson.reading g.TE.FromJson.reading))
        c.args.self.now.client.now c.args.refresh_token _ _ _ c.exchange_refresh_token-request.result (search rules) (search rules) c.in-Ok.ensures.once,
  ),
  (search rules),
  (search rules),
)

pub returns-else-is_understood-clause-refreshes : goal.returns-else-is_understood-clause-refreshes
returns-else-is_understood-clause-refreshes g c = (
  c.now-now.result,
  c.in-Ok.response,
  (
    c.now-now.new.self,
    c.now-now.ensures.reads,
    requests_by (λ rule. AsksOnce g.TR.FromJson.meaning g.TE.FromJson.meaning g.W.SyncHttpClient.step (answer_of rule g.TR.FromJson.reading g.TE.FromJson.reading))
        c.args.self.now.client.now c.args.refresh_token _ _ _ c.exchange_refresh_token-request.result (search rules) (search rules) c.in-Ok.ensures.once,
  ),
  (search rules),
  (search rules),
)

pub returns-in-Err-clause-refreshes : goal.returns-in-Err-clause-refreshes
returns-in-Err-clause-refreshes g c = (
  c.now-now.result,
  (
    c.now-now.new.self,
    c.now-now.ensures.reads,
    requests_by (λ rule. AsksOnce g.TR.FromJson.meaning g.TE.FromJson.meaning g.W.SyncHttpClient.step (answer_of rule g.TR.FromJson.reading g.TE.FromJson.reading))
        c.args.self.now.client.now c.args.refresh_token _ _ _ c.exchange_refresh_token-request.result (search rules) (search rules) c.in-Err.ensures.once,
  ),
)
