use Rattle.std.proofs.Common.{subst}
use Rattle.oauth2_retry_after.proofs.tells_busy.TellsBusySyncHttpClient.call.Goals as goal

pub returns-clause-step : goal.returns-clause-step
returns-clause-step g c = (
  c.call.result,
  subst (λ client. g.C.SyncHttpClient.step client c.args.request c.call.result c.call.new.self) c.self.view_is c.call.ensures.step,
  c.reply_or_busy.ensures,
)
