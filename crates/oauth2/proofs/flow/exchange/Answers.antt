use Rattle.oauth2.proofs.flow.exchange.Goals as goal

pub returns-clause-not_http : goal.returns-clause-not_http
returns-clause-not_http g c =
    λ refused. (c.exchange_code.result.token_url, c.exchange_code.ensures.url, rw (c.set_pkce_verifier.ensures) at (c.prepare_request-2.ensures.not_http refused))
