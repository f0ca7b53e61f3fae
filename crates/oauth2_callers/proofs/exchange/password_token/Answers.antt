use Rattle.std.proofs.Common.{ap}
use Rattle.oauth2_requests.specs.Password.{PasswordRequest, password_configuration}
use Rattle.oauth2_wire.specs.Reply.{answer_of}
use Rattle.oauth2_wire.specs.Request.{IsRequestOf}
use Rattle.oauth2_callers.proofs.exchange.password_token.Given as given
use Rattle.oauth2_callers.proofs.Accepted.{IfOk-from_AsksOnce, IsRequestOf-equal}
use Rattle.oauth2_callers.proofs.exchange.password_token.Goals as goal

pub returns : goal.returns
returns g c =
    let started = c.exchange_password in
    let once = rw (ap (λ (r : PasswordRequest). r.base.reply_rule) started.ensures.new) at c.request.ensures.once in
    IfOk-from_AsksOnce _ _ (λ f request answer after. given.F-step g f request answer after) (answer_of _ _ _) (IsRequestOf _) _ _ _ _
    (λ r is. (started.result.token_url, started.ensures.url, IsRequestOf-equal password_configuration started.result _ _ _ started.ensures.new is))
    c.request.result once
