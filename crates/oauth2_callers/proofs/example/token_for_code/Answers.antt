use Rattle.std.proofs.Common.{ap}
use Rattle.oauth2_requests.specs.Code.{CodeRequest, code_configuration}
use Rattle.oauth2_wire.specs.Reply.{answer_of}
use Rattle.oauth2_wire.specs.Request.{IsRequestOf}
use Rattle.oauth2_callers.proofs.Accepted.{IfOk-from_AsksOnce, IsRequestOf-equal}
use Rattle.oauth2_callers.proofs.example.token_for_code.Goals as goal

pub returns-clause-token : goal.returns-clause-token
returns-clause-token g c =
    let started = c.exchange_code in
    let once = rw (ap (λ (r : CodeRequest). r.base.reply_rule) started.ensures.new) at c.request.ensures.once in
    IfOk-from_AsksOnce _ _ g.C.SyncHttpClient.step (answer_of _ _ _) (IsRequestOf _) _ _ _ _
    (λ r is. (started.result.token_url, started.ensures.url, rw (c.new.ensures) at (IsRequestOf-equal code_configuration started.result _ _ _ started.ensures.new is)))
    c.request.result once
