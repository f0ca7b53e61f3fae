use Rattle.std.proofs.lemmas.Result.{err_from_is_err_and}
use Rattle.serde_json.specs.View.{view}
use Rattle.oauth2_member_rows.proofs.Tables.{object_built, object_errs}
use Rattle.oauth2_redirect.specs.Login.{LoginView, login_view_of, login_table}
use Rattle.oauth2_redirect.proofs.login_json.LoginFromJson.from_json.Goals as goal

pub returns-in_err-state : goal.returns-in_err-state
returns-in_err-state c =
    let p = err_from_is_err_and c.from_residual.result c.from_residual.ensures.1 in
    rw (p.1, p.2) (object_errs LoginView login_table login_view_of (view c.args.value) c.in_err-state.field-0.0 c.in_err-state.ensures)

pub returns : goal.returns
returns c = rw c.new.ensures (object_built LoginView login_table login_view_of (view c.args.value) _ c.in_ok-state.ensures)
