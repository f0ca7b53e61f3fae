use Rattle.std.proofs.Common.{option_copied}
use Rattle.oauth2_pushed_login.proofs.PushEnds.{pushed_all}
use Rattle.oauth2_pushed_login.proofs.pushing_login_client.PushingLoginClient.push.Goals as goal

pub returns-in-Ok-clause-end : goal.returns-in-Ok-clause-end
returns-in-Ok-clause-end g c =
    pushed_all g.TE.FromJson.meaning g.TE.FromJson.reading g.C.SyncHttpClient.step c.args.self.now (option_copied c.args.client_secret) c.args.url.now
    c.args.http_client.now c.request-outcome.new.http_client c.short_url.result
    c.in-Ok.request c.in-Ok.ensures.client c.in-Ok.ensures.ok c.request-outcome.result c.request-outcome.ensures.once c.short_url.ensures
