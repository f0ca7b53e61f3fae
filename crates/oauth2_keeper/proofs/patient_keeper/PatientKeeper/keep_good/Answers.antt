use Rattle.std.proofs.Common.{subst}
use Rattle.oauth2_wire.specs.Once.{AsksOnce}
use Rattle.oauth2_wire.specs.Reply.{answer_of}
use Rattle.oauth2_keeper.specs.Keeper.{given_by}
use Rattle.oauth2_keeper.specs.Patience.{Patient, UsableCalls}
use Rattle.oauth2_keeper.proofs.patient_keeper.PatientKeeper.keep_good.Goals as goal

pub returns-clause-call : goal.returns-clause-call
returns-clause-call g c =
    subst
    (λ (p : Patient). UsableCalls (λ rule. AsksOnce g.TR.FromJson.meaning g.TE.FromJson.meaning g.C.SyncHttpClient.step (answer_of rule g.TR.FromJson.reading g.TE.FromJson.reading))
    (given_by g.TR.TokenType.ToJson.writing g.TR.TokenResponse.access_token g.TR.TokenResponse.token_type g.TR.TokenResponse.lifetime g.TR.TokenResponse.refresh_token) g.C.Error.AsksToWait.asked_wait
    p c.args.now.nanosecond c.args.http_client.now c.call.result c.call.new.http_client c.call.new.self)
    c.forget_other_type.ensures c.call.ensures.call
