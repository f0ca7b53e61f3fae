use Rattle.std.proofs.lemmas.Result.{err_from_is_err_and}
use Rattle.serde_json.specs.View.{view}
use Rattle.oauth2_member_rows.proofs.Tables.{beside_built, beside_errs}
use Rattle.oauth2_openid.specs.Token.{WithOthers}
use Rattle.oauth2_signed_tokens.specs.logout_tokens.LogoutToken.{LogoutClaims}
use Rattle.oauth2_signed_tokens.specs.logout_tokens.Reading.{logout_table, claims_with}
use Rattle.oauth2_signed_tokens.proofs.logout_tokens.claims.AllClaimsFromJson.from_json.Goals as goal

pub returns-in_err-read : goal.returns-in_err-read
returns-in_err-read c =
    let p = err_from_is_err_and c.from_residual.result c.from_residual.ensures.1 in
    rw (p.1, p.2) (beside_errs (WithOthers LogoutClaims) logout_table claims_with (view c.args.value) c.in_err-read.field-0.0 c.in_err-read.ensures)

pub returns : goal.returns
returns c =
    let told = beside_built (WithOthers LogoutClaims) logout_table claims_with (view c.args.value) _ _ c.in_ok-read.ensures in
    rw told.is told.reads
