use Rattle.std.proofs.Common.{◌≡◌, subst, ap}
use Rattle.oauth2_adapters.specs.AdaptedCall.{IsAdapted}
use Rattle.oauth2_adapters.proofs.client.AdaptedClientSyncHttpClient.call.Goals as goal

pub returns-clause-step : goal.returns-clause-step
returns-clause-step g c =
    let client_is : c.self.inside.client ≡ c.args.self.now.0 = ap (λ p. p.0) c.self.view_is in
    let adapter_is : c.self.inside.adapter ≡ c.args.self.now.1 = ap (λ p. p.1) c.self.view_is in (
      c.call-answer.result,
      subst (λ s. g.C.SyncHttpClient.step s c.args.request c.call-answer.result c.call-answer.new.self) client_is c.call-answer.ensures.step,
      adapter_is,
      subst (λ a. IsAdapted (g.A.ReplyAdapter.adapted a) (g.A.ReplyAdapter.needs_memory a) c.call-answer.result c.adapted_answer.result) adapter_is c.adapted_answer.ensures,
    )
