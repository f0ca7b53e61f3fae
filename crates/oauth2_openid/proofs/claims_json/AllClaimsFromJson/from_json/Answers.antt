use Rattle.std.proofs.lemmas.Iterator.Adapters.{option_map_id}
use Rattle.std.proofs.lemmas.Result.{err_from_is_err_and}
use Rattle.serde_json.specs.View.{view}
use Rattle.oauth2_member_rows.proofs.Tables.{beside_built, beside_errs}
use Rattle.oauth2_openid.specs.Claims.{Claims}
use Rattle.oauth2_openid.specs.Token.{WithOthers}
use Rattle.oauth2_openid.specs.Reading.{id_token_table, claims_with}
use Rattle.oauth2_openid.proofs.claims_json.AllClaimsFromJson.from_json.Goals as goal

pub returns-in_err-read : goal.returns-in_err-read
returns-in_err-read c =
    let p = err_from_is_err_and c.from_residual.result c.from_residual.ensures.1 in
    rw (p.1, p.2) (beside_errs (WithOthers Claims) id_token_table claims_with (view c.args.value) c.in_err-read.field-0.0 c.in_err-read.ensures)

pub returns : goal.returns
returns c =
    let beside = beside_built (WithOthers Claims) id_token_table claims_with (view c.args.value) _ (view c.in_ok-read.others) c.in_ok-read.ensures in
    rw (c.in_ok-others-3.ensures, c.in_ok-others-2.ensures, c.in_ok-others.ensures, beside.is) (simp option_map_id at beside.reads)
