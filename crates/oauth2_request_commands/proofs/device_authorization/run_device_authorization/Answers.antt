use Rattle.std.proofs.Common.{◌≡◌, codes}
use Rattle.std.proofs.lemmas.Result.{IfOk-weaker}
use Rattle.oauth2_codes.specs.ErrorCodes.{error_code, error_code_text}
use Rattle.oauth2_codes.specs.ErrorResponse.{parts_of}
use Rattle.oauth2_requests.specs.DeviceAuthorization.{device_authorization_configuration}
use Rattle.oauth2_request_commands.specs.Exchange.{error_members}
use Rattle.oauth2_request_commands.specs.DeviceAuthorization.{device_authorization_answer, device_json}
use Rattle.oauth2_request_commands.proofs.Commands.{request_told, no_endpoint_told}
use Rattle.oauth2_request_commands.proofs.Exchanges.{exchange_told}
use Rattle.oauth2_request_commands.proofs.Results.{device_meaning, device_free, device_written-data, error_told}
use Rattle.oauth2_request_commands.proofs.Scopes.{all_added}
use Rattle.oauth2_request_commands.proofs.device_authorization.run_device_authorization.Goals as goal

pub show_end-requires : goal.show_end-requires
show_end-requires c = device_free

pub returns-in_ok-asked-in-Ok : goal.returns-in_ok-asked-in-Ok
unfolding device_json
returns-in_ok-asked-in-Ok c =
    let r = c.in_ok-asked-in-Ok.asked in
    let h = c.in_ok-scoped-in-Ok.ensures in
    let all : h.1 ≡ c.args.params.scopes.items =
    all_added c.args.params.scopes h.0 h.1 h.2.0 h.2.1 h.3 in
    request_told _ (codes "device authorization") c.args.client.now.device_authorization_url _ _ _ _ _ _
    c.in-Ok.ensures.there c.in-Ok.ensures.missing
    (IfOk-weaker c.show_end.result _ _
    (λ status shows. λ fed.
    exchange_told device_meaning (parts_of error_code) device_json (error_members error_code_text)
    (device_authorization_answer r.base.reply_rule) (device_authorization_configuration r)
    r.device_authorization_url c.args.http_client.now c.request-end.new.http_client
    c.show_end.new.events status c.request-end.result c.request-end.ensures.once fed
    (shows _ device_written-data error_told))
    c.show_end.ensures)
    (λ u start o shown. rw (c.in_ok-asked-in-Ok.ensures, h.4, all, start, c.as_slice.ensures.value) at shown)

pub returns-in-Err : goal.returns-in-Err
returns-in-Err c =
    no_endpoint_told _ _ c.args.client.now.device_authorization_url _ _ _ _ c.in-Err.error
    c.in-Err.ensures.there c.in-Err.ensures.missing c.show_configuration_error.ensures
