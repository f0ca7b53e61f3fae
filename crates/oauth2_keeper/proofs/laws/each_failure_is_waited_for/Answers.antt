use Rattle.oauth2_wire.specs.Once.{AsksOnce}
use Rattle.oauth2_wire.specs.Reply.{answer_of}
use Rattle.oauth2_keeper.specs.Keeper.{given_by}
use Rattle.oauth2_keeper.proofs.Patience.{waited_for, set_back, other_type_waited_for}
use Rattle.oauth2_keeper.proofs.laws.each_failure_is_waited_for.Goals as goal

pub returns-clause-waits : goal.returns-clause-waits
returns-clause-waits g c =
    waited_for (λ rule. AsksOnce g.TR.FromJson.meaning g.TE.FromJson.meaning g.C.SyncHttpClient.step (answer_of rule g.TR.FromJson.reading g.TE.FromJson.reading))
    (given_by g.TR.TokenType.ToJson.writing g.TR.TokenResponse.access_token g.TR.TokenResponse.token_type g.TR.TokenResponse.lifetime g.TR.TokenResponse.refresh_token) g.C.Error.AsksToWait.asked_wait

pub returns-clause-set_back : goal.returns-clause-set_back
returns-clause-set_back g c =
    set_back (λ rule. AsksOnce g.TR.FromJson.meaning g.TE.FromJson.meaning g.C.SyncHttpClient.step (answer_of rule g.TR.FromJson.reading g.TE.FromJson.reading))
    (given_by g.TR.TokenType.ToJson.writing g.TR.TokenResponse.access_token g.TR.TokenResponse.token_type g.TR.TokenResponse.lifetime g.TR.TokenResponse.refresh_token) g.C.Error.AsksToWait.asked_wait

pub returns-clause-other_type : goal.returns-clause-other_type
returns-clause-other_type g c =
    other_type_waited_for (λ rule. AsksOnce g.TR.FromJson.meaning g.TE.FromJson.meaning g.C.SyncHttpClient.step (answer_of rule g.TR.FromJson.reading g.TE.FromJson.reading))
    (given_by g.TR.TokenType.ToJson.writing g.TR.TokenResponse.access_token g.TR.TokenResponse.token_type g.TR.TokenResponse.lifetime g.TR.TokenResponse.refresh_token) g.C.Error.AsksToWait.asked_wait
