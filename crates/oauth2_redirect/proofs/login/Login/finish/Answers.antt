use Rattle.std.proofs.Common.{◌≡◌, List, subst, rules}
use Rattle.oauth2_form.specs.Pairs.{Pair, form}
use Rattle.oauth2_form.specs.Query.{query_form}
use Rattle.oauth2_redirect.specs.End.{FinishesLogin}
use Rattle.oauth2_redirect.proofs.login.Login.finish.Goals as goal

pub returns : goal.returns
returns g c =
    let same : form c.unwrap_or-query.result.now ≡ query_form c.args.redirect.now = search rules in
    subst (λ (pairs : List Pair). FinishesLogin g.TR.FromJson.meaning g.TE.FromJson.meaning g.TR.FromJson.reading g.TE.FromJson.reading g.C.SyncHttpClient.is_ready g.C.SyncHttpClient.step c.args.client.now c.args.self c.args.redirect.now pairs c.args.http_client.now c.finish_query.result c.finish_query.new.http_client) same c.finish_query.ensures
