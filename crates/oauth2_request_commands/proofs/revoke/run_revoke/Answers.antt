use Rattle.std.proofs.Common.{codes}
use Rattle.std.proofs.lemmas.Result.{IfOk-weaker}
use Rattle.oauth2_codes.specs.ErrorCodes.{revocation_error_code, revocation_error_code_text}
use Rattle.oauth2_codes.specs.ErrorResponse.{parts_of}
use Rattle.oauth2_requests.specs.TokenRevocation.{revocation_configuration}
use Rattle.oauth2_request_commands.specs.Exchange.{error_members}
use Rattle.oauth2_request_commands.specs.Revoke.{revocation_answer}
use Rattle.oauth2_request_commands.proofs.Commands.{refusal_told, https_told}
use Rattle.oauth2_request_commands.proofs.Exchanges.{exchange_told}
use Rattle.oauth2_request_commands.proofs.revoke.run_revoke.Goals as goal

pub returns-in-Ok : goal.returns-in-Ok
returns-in-Ok c =
    let r = c.in_ok-asked-in-Ok.asked in
    IfOk-weaker c.show_revocation.result _ _
    (λ status printed. λ fed.
    https_told (codes "revocation") _ _ _ c.args.client.now.revocation_url _ _ status
    c.in-Ok.ensures.secure c.in-Ok.ensures.insecure c.in-Ok.ensures.missing
    (exchange_told (λ done. done) (parts_of revocation_error_code) (λ done. codes "null")
    (error_members revocation_error_code_text) revocation_answer (revocation_configuration r)
    r.revocation_url c.args.http_client.now c.request-end.new.http_client
    c.show_revocation.new.events status c.request-end.result
    c.request-end.ensures.once fed printed)
    (λ u start o shown.
    let given = rw start at c.in_ok-asked-in-Ok.ensures in
    rw (given, c.token_of.ensures.text, c.token_of.ensures.hint, c.as_slice.ensures.value) at shown))
    c.show_revocation.ensures

pub returns : goal.returns
returns c =
    IfOk-weaker c.show_configuration_error.result _ _
    (λ status printed. λ fed.
    refusal_told _ _ c.args.client.now.revocation_url _ _ status c.in-Err.error
    c.in-Err.ensures.secure c.in-Err.ensures.insecure c.in-Err.ensures.missing printed)
    c.show_configuration_error.ensures
