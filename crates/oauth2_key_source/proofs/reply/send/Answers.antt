use Rattle.std.proofs.Common.{Ok, Err, refl}
use Rattle.oauth2_key_source.proofs.reply.send.Goals as goal

pub returns-in-Ok-call-clause-once : goal.returns-in-Ok-call-clause-once
returns-in-Ok-call-clause-once g c = rw c.in-Ok.is (Ok c.in-Ok-call.reply, c.in-Ok-call.ensures.step, c.read_reply.ensures)

pub returns-in-Err-call-clause-once : goal.returns-in-Err-call-clause-once
returns-in-Err-call-clause-once g c = rw c.in-Ok.is (Err c.in-Err-call.error, c.in-Err-call.ensures.step, refl)
