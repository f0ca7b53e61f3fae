use Rattle.oauth2_wire.specs.Reply.{answer_of}
use Rattle.oauth2_wire.specs.Request.{IsRequestOf}
use Rattle.oauth2_callers.proofs.Accepted.{IfOk-from_AsksOnce}
use Rattle.oauth2_callers.proofs.application.token_response.Goals as goal

pub returns-clause-token : goal.returns-clause-token
returns-clause-token g c =
    IfOk-from_AsksOnce _ _ g.C.SyncHttpClient.step (answer_of _ _ _) (IsRequestOf _) _ _ _ _
    (λ r is. is)
    c.request.result c.request.ensures.once
