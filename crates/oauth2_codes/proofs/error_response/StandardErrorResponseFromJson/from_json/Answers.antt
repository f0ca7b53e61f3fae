use Rattle.std.proofs.lemmas.Result.{err_from_is_err_and}
use Rattle.serde_json.specs.View.{view}
use Rattle.oauth2_member_rows.proofs.Tables.{object_built, object_errs}
use Rattle.oauth2_codes.specs.ErrorResponse.{ErrorParts, parts_of_error, error_table}
use Rattle.oauth2_codes.proofs.error_response.StandardErrorResponseFromJson.from_json.Goals as goal

pub returns-in_err-error : goal.returns-in_err-error
returns-in_err-error g c =
    let T = g.T.FromJson in
    let p = err_from_is_err_and c.from_residual.result c.from_residual.ensures.1 in
    rw (p.1, p.2) (object_errs (ErrorParts T.Meaning) (error_table T.reading) parts_of_error (view c.args.value) c.in_err-error.field-0.0 c.in_err-error.ensures)

pub returns : goal.returns
returns g c =
    let T = g.T.FromJson in
    object_built (ErrorParts T.Meaning) (error_table T.reading) parts_of_error (view c.args.value) _ c.in_ok-error.ensures
