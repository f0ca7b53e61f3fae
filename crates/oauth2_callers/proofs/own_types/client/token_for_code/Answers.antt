use Rattle.oauth2_requests.specs.Code.{code_configuration}
use Rattle.oauth2_callers.proofs.EqualRequests.{AsksOnce-equal}
use Rattle.oauth2_callers.proofs.own_types.client.token_for_code.Goals as goal

pub returns-clause-once : goal.returns-clause-once
returns-clause-once g c =
    let started = c.exchange_code in
    (started.result.token_url, started.ensures.url, AsksOnce-equal _ _ _ _ g.C.SyncHttpClient.step (λ r. r.base.reply_rule) code_configuration started.result _ started.result.token_url _ c.request.result _ started.ensures.new c.request.ensures.once)
