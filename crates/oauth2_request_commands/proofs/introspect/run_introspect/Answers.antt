use Rattle.std.proofs.Common.{codes}
use Rattle.std.proofs.lemmas.Result.{IfOk-weaker}
use Rattle.oauth2_codes.specs.ErrorCodes.{error_code, error_code_text}
use Rattle.oauth2_codes.specs.ErrorResponse.{parts_of}
use Rattle.oauth2_requests.specs.TokenIntrospection.{introspection_configuration}
use Rattle.oauth2_script.specs.Views.{introspect_view}
use Rattle.oauth2_request_commands.specs.Exchange.{error_members}
use Rattle.oauth2_request_commands.specs.Introspect.{introspection_answer, introspection_json}
use Rattle.oauth2_request_commands.proofs.Commands.{request_told, no_endpoint_told, given_or-none}
use Rattle.oauth2_request_commands.proofs.Exchanges.{exchange_told}
use Rattle.oauth2_request_commands.proofs.Results.{introspection_meaning, introspection_free, introspection_written-data, error_told}
use Rattle.oauth2_request_commands.proofs.introspect.run_introspect.Goals as goal

pub show_end-requires : goal.show_end-requires
show_end-requires c = introspection_free

pub returns-in_ok-asked-in-Ok : goal.returns-in_ok-asked-in-Ok
unfolding introspection_json
returns-in_ok-asked-in-Ok c =
    let r = c.in_ok-asked-in-Ok.asked in
    request_told _ (codes "introspection") c.args.client.now.introspection_url _ _ _ _ _ _
    c.in-Ok.ensures.there c.in-Ok.ensures.missing
    (IfOk-weaker c.show_end.result _ _
    (λ status shows. λ fed.
    exchange_told introspection_meaning (parts_of error_code) introspection_json (error_members error_code_text)
    (introspection_answer r.base.reply_rule) (introspection_configuration r)
    r.introspection_url c.args.http_client.now c.request-end.new.http_client
    c.show_end.new.events status c.request-end.result c.request-end.ensures.once fed
    (shows _ introspection_written-data error_told))
    c.show_end.ensures)
    (λ u start o shown.
    let given = rw (c.with_hint-hinted.ensures, start) at c.in_ok-asked-in-Ok.ensures in
    rw (given, given_or-none (introspect_view c.args.params).hint, c.as_slice.ensures.value) at shown)

pub returns-in-Err : goal.returns-in-Err
returns-in-Err c =
    no_endpoint_told _ _ c.args.client.now.introspection_url _ _ _ _ c.in-Err.error
    c.in-Err.ensures.there c.in-Err.ensures.missing c.show_configuration_error.ensures
