use Rattle.oauth2_callers.proofs.device.device_codes.Goals as goal

pub returns-clause-once : goal.returns-clause-once
returns-clause-once g c =
    let started = c.exchange_device_code in
    (started.result.device_authorization_url, started.ensures.url, rw started.ensures.new at c.request.ensures.once)
