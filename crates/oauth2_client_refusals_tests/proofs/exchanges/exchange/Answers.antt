use Rattle.std.proofs.Common.{ap}
use Rattle.oauth2_requests.specs.Code.{CodeRequest}
use Rattle.oauth2_wire.specs.Reply.{answer_of}
use Rattle.oauth2_wire.specs.Request.{IsRequestOf}
use Rattle.oauth2_client_refusals_tests.proofs.Accepted.{accepted_of_ready}
use Rattle.oauth2_client_refusals_tests.proofs.exchanges.exchange.Goals as goal

pub returns-clause-token : goal.returns-clause-token
returns-clause-token c =
    let once = rw (ap (λ (r : CodeRequest). r.base.reply_rule) c.exchange_code.ensures.new) at c.request.ensures.once in
    accepted_of_ready _ _ (answer_of _ _ _) (IsRequestOf _) _ _ _ c.request.result once
