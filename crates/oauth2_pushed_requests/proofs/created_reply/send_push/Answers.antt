use Rattle.std.proofs.Common.{Ok, Err, refl}
use Rattle.oauth2_pushed_requests.proofs.created_reply.send_push.Goals as goal

pub returns-in-Ok-call-clause-once : goal.returns-in-Ok-call-clause-once
returns-in-Ok-call-clause-once g c = rw c.in-Ok.is (Ok c.in-Ok-call.reply, c.in-Ok-call.ensures.step, c.read_created.ensures)

pub returns-in-Err-call-clause-once : goal.returns-in-Err-call-clause-once
returns-in-Err-call-clause-once g c = rw c.in-Ok.is (Err c.in-Err-call.error, c.in-Err-call.ensures.step, refl)
