use Rattle.std.proofs.Common.{◌≡◌, codes}
use Rattle.oauth2_requests.specs.Refresh.{refresh_configuration}
use Rattle.oauth2_request_commands.proofs.Commands.{request_told, no_endpoint_told}
use Rattle.oauth2_request_commands.proofs.Scopes.{all_added}
use Rattle.oauth2_request_commands.proofs.refresh.run_refresh.Goals as goal

pub returns-in_ok-asked-in-Ok : goal.returns-in_ok-asked-in-Ok
returns-in_ok-asked-in-Ok c =
    let r = c.in_ok-asked-in-Ok.asked in
    let h = c.in_ok-scoped-in-Ok.ensures in
    let all : h.1 ≡ c.args.params.scopes.items =
    all_added c.args.params.scopes h.0 h.1 h.2.0 h.2.1 h.3 in
    request_told _ (codes "token") c.args.client.now.token_url _ _ _ _ _ _
    c.in-Ok.ensures.there c.in-Ok.ensures.missing
    (c.show_token.ensures c.args.http_client.now r.base.reply_rule (refresh_configuration r) r.token_url
    c.request-end.ensures.once)
    (λ u start o shown. rw (c.in_ok-asked-in-Ok.ensures, h.4, all, start, c.as_slice.ensures.value) at shown)

pub returns-in-Err : goal.returns-in-Err
returns-in-Err c =
    no_endpoint_told _ _ c.args.client.now.token_url _ _ _ _ c.in-Err.error
    c.in-Err.ensures.there c.in-Err.ensures.missing c.show_configuration_error.ensures
