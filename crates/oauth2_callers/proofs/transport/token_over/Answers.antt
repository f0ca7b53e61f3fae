use Rattle.std.proofs.Common.{inl}
use Rattle.oauth2_requests.specs.Code.{code_configuration}
use Rattle.oauth2_callers.proofs.Accepted.{IsRequestOf-equal}
use Rattle.oauth2_callers.proofs.transport.token_over.Goals as goal

pub returns : goal.returns
returns g c =
    let started = c.exchange_code in
    let asked = IsRequestOf-equal code_configuration started.result _ _ _ started.ensures.new c.in_ok-request.ensures.ok in
    (started.result.token_url, started.ensures.url, inl (c.in_ok-request.request, asked, c.round_trip-reply.result, c.round_trip-reply.ensures, rw c.reply_rule.ensures at c.endpoint_response_with.ensures))
