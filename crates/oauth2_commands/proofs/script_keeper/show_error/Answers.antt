use Rattle.std.proofs.lemmas.Result.{IfOk-weaker}
use Rattle.oauth2_request_commands.proofs.Results.{error_told}
use Rattle.oauth2_commands.proofs.script_keeper.show_error.Goals as goal

pub returns-in-Request : goal.returns-in-Request
returns-in-Request c = IfOk-weaker c.show_fault.result _ _ (λ status shows. rw c.in-Request.is (shows error_told)) c.show_fault.ensures
