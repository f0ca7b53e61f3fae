use Rattle.std.proofs.Common.{rules}
use Rattle.oauth2_wire.specs.Once.{AsksOnce}
use Rattle.oauth2_wire.specs.Reply.{answer_of}
use Rattle.oauth2_keeper.specs.Keeper.{given_by}
use Rattle.oauth2_keeper.proofs.Patience.{by_success, by_fault}
use Rattle.oauth2_keeper.proofs.patient_keeper.PatientKeeper.call.Goals as goal

pub returns-in-Ok-clause-call : goal.returns-in-Ok-clause-call
returns-in-Ok-clause-call g c =
    by_success (λ rule. AsksOnce g.TR.FromJson.meaning g.TE.FromJson.meaning g.C.SyncHttpClient.step (answer_of rule g.TR.FromJson.reading g.TE.FromJson.reading))
    (given_by g.TR.TokenType.ToJson.writing g.TR.TokenResponse.access_token g.TR.TokenResponse.token_type g.TR.TokenResponse.lifetime g.TR.TokenResponse.refresh_token) g.C.Error.AsksToWait.asked_wait c.args.self.now c.settle.new.self c.args.now.nanosecond c.args.http_client.now c.keep_good.new.http_client
    c.self.inside.keeper c.keep_good.new.self c.in-Ok.field-0 c.settle.result (search rules) (search rules) c.in-Ok.ensures.call (search rules)

pub returns-in-Err-clause-call : goal.returns-in-Err-clause-call
returns-in-Err-clause-call g c =
    by_fault (λ rule. AsksOnce g.TR.FromJson.meaning g.TE.FromJson.meaning g.C.SyncHttpClient.step (answer_of rule g.TR.FromJson.reading g.TE.FromJson.reading))
    (given_by g.TR.TokenType.ToJson.writing g.TR.TokenResponse.access_token g.TR.TokenResponse.token_type g.TR.TokenResponse.lifetime g.TR.TokenResponse.refresh_token) g.C.Error.AsksToWait.asked_wait c.args.self.now c.note_fault.new.self c.args.now.nanosecond c.args.http_client.now c.keep_good.new.http_client
    c.self.inside.keeper c.keep_good.new.self c.in-Err.error (search rules) (search rules) c.in-Err.ensures.call (search rules) (search rules)
