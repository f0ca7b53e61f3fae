use Rattle.std.proofs.Common.{◌≡◌, codes}
use Rattle.std.proofs.lemmas.Result.{IfOk-weaker}
use Rattle.oauth2_request_commands.proofs.Scopes.{all_added}
use Rattle.oauth2_grant_commands.proofs.Requests.{absent_told, there_told}
use Rattle.oauth2_grant_commands.proofs.exchange_token.run_exchange_token.Goals as goal

pub returns-in_ok-scoped-in-Some : goal.returns-in_ok-scoped-in-Some
returns-in_ok-scoped-in-Some c =
    let h = c.in_ok-scoped-in-Some.ensures in
    let all : h.1 ≡ c.args.params.scopes.items =
    all_added c.args.params.scopes h.0 h.1 h.2.0 h.2.1 h.3 in
    IfOk-weaker c.show_exchange.result _ _
    (λ status shown. λ fed.
    let asked = shown fed in
    let told = rw (h.4, all, c.in_ok-request-in-Some.ensures, c.token_client.ensures, c.as_slice.ensures.value) at asked in
    there_told (codes "token") _ c.args.client.now.endpoints.token _ _ status c.in-Some.url c.in-Some.is told)
    c.show_exchange.ensures

pub returns-in-None : goal.returns-in-None
returns-in-None c =
    IfOk-weaker c.show_missing.result _ _
    (λ status told. λ fed. absent_told (codes "token") _ c.args.client.now.endpoints.token _ _ status c.in-None.is told)
    c.show_missing.ensures
