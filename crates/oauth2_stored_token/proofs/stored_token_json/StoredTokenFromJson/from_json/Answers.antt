use Rattle.std.proofs.lemmas.Iterator.Adapters.{option_map_id}
use Rattle.std.proofs.lemmas.Result.{err_from_is_err_and}
use Rattle.serde_json.specs.View.{view}
use Rattle.oauth2_member_rows.proofs.Tables.{object_built, object_errs}
use Rattle.oauth2_stored_token.specs.Stored.{Stored, stored_token, stored_table}
use Rattle.oauth2_stored_token.proofs.stored_token_json.StoredTokenFromJson.from_json.Goals as goal

pub returns-in_err-access_token : goal.returns-in_err-access_token
returns-in_err-access_token c =
    let p = err_from_is_err_and c.from_residual.result c.from_residual.ensures.1 in
    rw (p.1, p.2) (object_errs Stored stored_table stored_token (view c.args.value) c.in_err-access_token.field-0.0 c.in_err-access_token.ensures)

pub returns : goal.returns
returns c = simp option_map_id at (object_built Stored stored_table stored_token (view c.args.value) _ c.in_ok-access_token.ensures)
