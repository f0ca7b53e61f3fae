use Rattle.std.proofs.lemmas.Result.{IfOk-weaker}
use Rattle.oauth2_request_commands.proofs.Results.{error_told}
use Rattle.oauth2_commands.proofs.metadata.show_metadata_error.Goals as goal

pub returns-in-Reply : goal.returns-in-Reply
returns-in-Reply c = IfOk-weaker c.show_fault.result _ _ (λ status shows. rw c.in-Reply.is (shows error_told)) c.show_fault.ensures

pub returns-in-Status : goal.returns-in-Status
returns-in-Status c = IfOk-weaker c.show_error_text.result _ _ (λ status told. rw c.in-Status.is (rw c.in-Status.is at told)) c.show_error_text.ensures

pub returns-in-Endpoint : goal.returns-in-Endpoint
returns-in-Endpoint c = IfOk-weaker c.show_error_text-in-Endpoint.result _ _ (λ status told. rw c.in-Endpoint.is (rw c.in-Endpoint.is at told)) c.show_error_text-in-Endpoint.ensures

pub returns-in-OtherIssuer : goal.returns-in-OtherIssuer
returns-in-OtherIssuer c =
    IfOk-weaker c.show_error_text-in-OtherIssuer.result _ _ (λ status told. rw c.in-OtherIssuer.is (rw c.in-OtherIssuer.is at told)) c.show_error_text-in-OtherIssuer.ensures
