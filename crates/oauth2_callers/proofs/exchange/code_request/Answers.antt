use Rattle.oauth2_callers.proofs.exchange.code_request.Goals as goal

pub returns-clause-not_http : goal.returns-clause-not_http
returns-clause-not_http c = λ refused.
    let spells_none = c.prepare_request-2.ensures.not_http refused in
    (c.exchange_code.result.token_url, c.exchange_code.ensures.url, rw (c.set_pkce_verifier.ensures) at spells_none)
