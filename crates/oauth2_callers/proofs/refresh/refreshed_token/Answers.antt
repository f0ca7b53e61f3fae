use Rattle.oauth2_callers.proofs.refresh.refreshed_token.Goals as goal

pub returns-clause-once : goal.returns-clause-once
returns-clause-once g c =
    let started = c.exchange_refresh_token in
    (started.result.token_url, started.ensures.url, rw started.ensures.new at c.request.ensures.once)
