use Rattle.std.proofs.lemmas.Result.{IfOk-weaker}
use Rattle.oauth2_request_commands.proofs.answer.show_end.Goals as goal

pub show_answer-requires : goal.show_answer-requires
show_answer-requires g c = c.requires c.in-Ok.answer

pub returns-in-Ok : goal.returns-in-Ok
returns-in-Ok g c =
    IfOk-weaker c.show_answer.result _ _
    (λ status shows. λ value written told. rw c.in-Ok.is (shows (value c.in-Ok.answer) (written c.in-Ok.answer))) c.show_answer.ensures

pub returns-in-Err : goal.returns-in-Err
returns-in-Err g c =
    IfOk-weaker c.show_fault.result _ _ (λ status shows. λ value written told. rw c.in-Err.is (shows told)) c.show_fault.ensures
