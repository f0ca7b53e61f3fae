use Rattle.std.proofs.lemmas.Result.{IfOk-weaker}
use Rattle.oauth2_request_commands.proofs.Results.{error_told}
use Rattle.oauth2_grant_commands.proofs.push.show_pushed.Goals as goal

pub returns-in-Err : goal.returns-in-Err
returns-in-Err c =
    IfOk-weaker c.show_fault.result _ _ (λ status shows. rw c.in-Err.is (shows error_told)) c.show_fault.ensures
