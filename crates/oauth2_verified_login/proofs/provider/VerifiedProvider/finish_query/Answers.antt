use Rattle.std.proofs.Common.{subst}
use Rattle.oauth2_form.specs.Pairs.{form}
use Rattle.oauth2_verified_login.specs.End.{FinishesVerifiedLogin}
use Rattle.oauth2_verified_login.specs.Provider.{Verifying}
use Rattle.oauth2_verified_login.proofs.Ends.{FinishesVerifiedLogin-from}
use Rattle.oauth2_verified_login.proofs.provider.VerifiedProvider.finish_query.Goals as goal

pub returns : goal.returns
returns g c =
    subst (λ (p : Verifying). FinishesVerifiedLogin g.TR.FromJson.meaning g.TE.FromJson.meaning g.TR.FromJson.reading g.TE.FromJson.reading g.C.SyncHttpClient.is_ready g.C.SyncHttpClient.step g.TR.TokenResponse.access_token g.TR.HasIdToken.token_type_text g.TR.HasIdToken.id_token c.args.client.now c.args.login p (g.K.FnOnce.post c.args.clock tt) c.args.called.now (form c.args.query.now) c.args.http_client.now c.verified_end.result c.finish_query_without_signature-finished.new.http_client) c.self.view_is
    (FinishesVerifiedLogin-from _ c.verified_end.result c.finish_query_without_signature-finished.ensures c.verified_end.ensures.ended c.verified_end.ensures.verified c.verified_end.ensures.unverified)
