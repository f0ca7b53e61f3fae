use Rattle.oauth2_requests.specs.DeviceAuthorization.{device_authorization_configuration}
use Rattle.oauth2_callers.proofs.EqualRequests.{AsksOnce-equal}
use Rattle.oauth2_callers.proofs.own_types.client.device_codes.Goals as goal

pub returns-clause-once : goal.returns-clause-once
returns-clause-once g c =
    let started = c.exchange_device_code in
    (started.result.device_authorization_url, started.ensures.url, AsksOnce-equal _ _ _ _ g.C.SyncHttpClient.step (λ r. r.base.reply_rule) device_authorization_configuration started.result _ started.result.device_authorization_url _ c.request.result _ started.ensures.new c.request.ensures.once)
