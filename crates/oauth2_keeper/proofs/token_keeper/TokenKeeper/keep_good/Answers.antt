use Rattle.std.proofs.Common.{rules}
use Rattle.oauth2_wire.specs.Once.{AsksOnce}
use Rattle.oauth2_wire.specs.Reply.{answer_of}
use Rattle.oauth2_keeper.specs.Keeper.{given_by}
use Rattle.oauth2_keeper.proofs.Renewals.{settled}
use Rattle.oauth2_keeper.proofs.token_keeper.TokenKeeper.keep_good.Goals as goal

pub returns-clause-call : goal.returns-clause-call
returns-clause-call g c =
    settled (λ rule. AsksOnce g.TR.FromJson.meaning g.TE.FromJson.meaning g.C.SyncHttpClient.step (answer_of rule g.TR.FromJson.reading g.TE.FromJson.reading))
    (given_by g.TR.TokenType.ToJson.writing g.TR.TokenResponse.access_token g.TR.TokenResponse.token_type g.TR.TokenResponse.lifetime g.TR.TokenResponse.refresh_token) c.args.self.now c.args.now.nanosecond (search rules) _ _
    c.renew.ensures.settles.0 c.renew.ensures.settles.1 c.renew.result _ c.renew.ensures.settles.2
