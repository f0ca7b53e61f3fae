use Rattle.std.proofs.lemmas.Result.{err_from_is_err_and}
use Rattle.serde_json.specs.View.{view}
use Rattle.oauth2_member_rows.proofs.Tables.{object_built, object_errs}
use Rattle.oauth2_stored_token.specs.AtEndpoint.{AtEndpoint, at_endpoint, at_endpoint_table}
use Rattle.oauth2_stored_token.proofs.client_at_endpoint_json.ClientAtEndpointFromJson.from_json.Goals as goal

pub returns-in_err-client_id : goal.returns-in_err-client_id
returns-in_err-client_id c =
    let p = err_from_is_err_and c.from_residual.result c.from_residual.ensures.1 in
    rw (p.1, p.2) (object_errs AtEndpoint at_endpoint_table at_endpoint (view c.args.value) c.in_err-client_id.field-0.0 c.in_err-client_id.ensures)

pub returns : goal.returns
returns c = object_built AtEndpoint at_endpoint_table at_endpoint (view c.args.value) _ c.in_ok-client_id.ensures
