use Rattle.std.proofs.Common.{Ok, Err, refl}
use Rattle.oauth2_wire.specs.Reply.{reply_of, accepted}
use Rattle.oauth2_wire.proofs.OnceLemmas.{SendsOnce-unprepared}
use Rattle.oauth2_wire.proofs.once.call.Goals as goal

pub returns-in-Ok-call-clause-once : goal.returns-in-Ok-call-clause-once
returns-in-Ok-call-clause-once g c = rw c.in-Ok.is (Ok c.in-Ok-call.reply, c.in-Ok-call.ensures.step, refl)

pub returns-in-Err-call-clause-once : goal.returns-in-Err-call-clause-once
returns-in-Err-call-clause-once g c = rw c.in-Ok.is (Err c.in-Err-call.error, c.in-Err-call.ensures.step, refl)

pub returns-in-Err-clause-once : goal.returns-in-Err-clause-once
returns-in-Err-clause-once g c =
    rw c.in-Err.is (SendsOnce-unprepared reply_of (λ error. error) g.C.SyncHttpClient.step accepted c.args.http_client.now c.args.http_client.now c.in-Err.fault c.unprepared.result refl c.unprepared.ensures)
