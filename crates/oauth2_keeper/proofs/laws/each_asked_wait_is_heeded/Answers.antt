use Rattle.oauth2_wire.specs.Once.{AsksOnce}
use Rattle.oauth2_wire.specs.Reply.{answer_of}
use Rattle.oauth2_keeper.specs.Keeper.{given_by}
use Rattle.oauth2_keeper.proofs.AskedWaits.{heeded}
use Rattle.oauth2_keeper.proofs.laws.each_asked_wait_is_heeded.Goals as goal

pub returns : goal.returns
returns g c =
    heeded (λ rule. AsksOnce g.TR.FromJson.meaning g.TE.FromJson.meaning g.C.SyncHttpClient.step (answer_of rule g.TR.FromJson.reading g.TE.FromJson.reading))
    (given_by g.TR.TokenType.ToJson.writing g.TR.TokenResponse.access_token g.TR.TokenResponse.token_type g.TR.TokenResponse.lifetime g.TR.TokenResponse.refresh_token) g.C.Error.AsksToWait.asked_wait
