use Rattle.std.proofs.Common.{codes}
use Rattle.oauth2_request_commands.proofs.Commands.{request_told, no_endpoint_told}
use Rattle.oauth2_request_commands.proofs.device_poll.run_device_poll.Goals as goal

pub returns-in-Ok : goal.returns-in-Ok
returns-in-Ok c =
    request_told _ (codes "token") c.args.client.now.token_url _ _ _ _ _ _
    c.in-Ok.ensures.there c.in-Ok.ensures.missing c.poll.ensures
    (λ u start o shown.
    rw (c.in_ok-asked-in-Ok.ensures, c.with_cap-capped.ensures, start, c.as_slice.ensures.value) at shown)

pub returns : goal.returns
returns c =
    no_endpoint_told _ _ c.args.client.now.token_url _ _ _ _ c.in-Err.error
    c.in-Err.ensures.there c.in-Err.ensures.missing c.show_configuration_error.ensures
