use Rattle.std.proofs.lemmas.Result.{IfOk-weaker}
use Rattle.oauth2_request_commands.proofs.Results.{revocation_error_told}
use Rattle.oauth2_request_commands.proofs.answer.show_revocation.Goals as goal

pub returns-in-Err : goal.returns-in-Err
returns-in-Err c =
    IfOk-weaker c.show_fault.result _ _ (λ status shows. rw c.in-Err.is (shows revocation_error_told)) c.show_fault.ensures
