use Rattle.std.proofs.Common.{codes}
use Rattle.oauth2_requests.specs.Code.{code_configuration}
use Rattle.oauth2_script.specs.Views.{code_view}
use Rattle.oauth2_request_commands.proofs.Commands.{request_told, no_endpoint_told, given_or-none}
use Rattle.oauth2_request_commands.proofs.code.run_code.Goals as goal

pub returns-in_ok-asked-in-Ok : goal.returns-in_ok-asked-in-Ok
returns-in_ok-asked-in-Ok c =
    let r = c.in_ok-asked-in-Ok.asked in
    request_told _ (codes "token") c.args.client.now.token_url _ _ _ _ _ _
    c.in-Ok.ensures.there c.in-Ok.ensures.missing
    (c.show_token.ensures c.args.http_client.now r.base.reply_rule (code_configuration r) r.token_url
    c.request-end.ensures.once)
    (λ u start o shown.
    let given = rw (c.with_redirect-redirected.ensures, c.with_verifier-verified.ensures, start)
    at c.in_ok-asked-in-Ok.ensures in
    rw (given, given_or-none (code_view c.args.params).verifier, c.as_slice.ensures.value) at shown)

pub returns-in-Err : goal.returns-in-Err
returns-in-Err c =
    no_endpoint_told _ _ c.args.client.now.token_url _ _ _ _ c.in-Err.error
    c.in-Err.ensures.there c.in-Err.ensures.missing c.show_configuration_error.ensures
