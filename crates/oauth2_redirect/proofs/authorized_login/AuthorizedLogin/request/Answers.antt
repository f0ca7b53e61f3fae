use Rattle.std.proofs.Common.{subst}
use Rattle.oauth2_redirect.specs.Bound.{Authorized}
use Rattle.oauth2_redirect.specs.End.{ExchangesCode}
use Rattle.oauth2_redirect.proofs.EndLaws.{ExchangesCode-of_request}
use Rattle.oauth2_redirect.proofs.authorized_login.AuthorizedLogin.request.Goals as goal

pub returns-clause-once : goal.returns-clause-once
returns-clause-once g c =
    let started = c.exchange in
    subst (λ (a : Authorized). ExchangesCode g.TR.FromJson.meaning g.TE.FromJson.meaning g.TR.FromJson.reading g.TE.FromJson.reading g.C.SyncHttpClient.step c.args.client.now a.login a.code c.args.http_client.now c.request.result c.request.new.http_client) c.self.view_is
    (ExchangesCode-of_request _ _ g.C.SyncHttpClient.step c.args.client.now started.result.token_url c.self.inside.login c.self.inside.code started.result started.ensures.url started.ensures.new c.request.ensures.once)
