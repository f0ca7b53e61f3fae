use Rattle.std.proofs.Common.{◌≡◌, List, subst}
use Rattle.oauth2_form.specs.Pairs.{Pair, form}
use Rattle.oauth2_form.specs.Query.{query_form}
use Rattle.oauth2_openid_login.specs.End.{FinishesOpenIdLogin}
use Rattle.oauth2_openid_login.proofs.login.OpenIdLogin.finish_without_signature.Goals as goal

pub returns : goal.returns
returns g c =
    let same : form c.query_of-query.result.now ≡ query_form c.args.redirect.now = c.query_of-query.ensures in
    subst (λ (pairs : List Pair). FinishesOpenIdLogin g.TR.FromJson.meaning g.TE.FromJson.meaning g.TR.FromJson.reading g.TE.FromJson.reading g.C.SyncHttpClient.is_ready g.C.SyncHttpClient.step g.TR.TokenResponse.access_token g.TR.HasIdToken.token_type_text g.TR.HasIdToken.id_token c.args.client.now c.args.self c.args.provider.now (g.K.FnOnce.post c.args.clock tt) c.args.redirect.now pairs c.args.http_client.now c.finish_query_without_signature.result c.finish_query_without_signature.new.http_client) same c.finish_query_without_signature.ensures
