use Rattle.std.proofs.lemmas.Result.{err_from_is_err_and}
use Rattle.serde_json.specs.View.{view}
use Rattle.oauth2_member_rows.proofs.Tables.{object_built, object_errs}
use Rattle.oauth2_pushed_requests.specs.Response.{PushedAuthorization, pushed_authorization, pushed_table, whole_response}
use Rattle.oauth2_pushed_requests.proofs.Responses.{then_errs, then_reads}
use Rattle.oauth2_pushed_requests.proofs.pushed_authorization_response.PushedAuthorizationResponseFromJson.from_json.Goals as goal

pub returns-in_err-request_uri : goal.returns-in_err-request_uri
returns-in_err-request_uri c =
    let p = err_from_is_err_and c.from_residual.result c.from_residual.ensures.1 in
    rw (p.1, p.2)
    (then_errs _ whole_response c.in_err-request_uri.field-0.0
    (object_errs PushedAuthorization pushed_table pushed_authorization (view c.args.value) c.in_err-request_uri.field-0.0 c.in_err-request_uri.ensures))

pub returns : goal.returns
returns c =
    then_reads _ whole_response (λ r. r) c.whole_response.result _
    (object_built PushedAuthorization pushed_table pushed_authorization (view c.args.value) _ c.in_ok-request_uri.ensures)
    c.whole_response.ensures
