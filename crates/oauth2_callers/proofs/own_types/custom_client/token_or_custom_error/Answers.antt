use Rattle.oauth2_requests.specs.ClientCredentials.{client_credentials_configuration}
use Rattle.oauth2_callers.proofs.EqualRequests.{AsksOnce-equal}
use Rattle.oauth2_callers.proofs.own_types.custom_client.token_or_custom_error.Goals as goal

pub returns-clause-once : goal.returns-clause-once
returns-clause-once g c =
    let started = c.exchange_client_credentials in
    (started.result.token_url, started.ensures.url, AsksOnce-equal _ _ _ _ g.C.SyncHttpClient.step (λ r. r.base.reply_rule) client_credentials_configuration started.result _ started.result.token_url _ c.request.result _ started.ensures.new c.request.ensures.once)
