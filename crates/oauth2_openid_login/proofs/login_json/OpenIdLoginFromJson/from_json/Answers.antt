use Rattle.std.proofs.Common.{refl}
use Rattle.std.proofs.lemmas.Result.{err_from_is_err_and}
use Rattle.serde_json.specs.View.{view}
use Rattle.oauth2_member_rows.proofs.Tables.{after_built, after_errs}
use Rattle.oauth2_redirect.specs.Login.{login_table, login_view_of}
use Rattle.oauth2_openid_login.specs.Login.{OpenIdKept, openid_kept, openid_login_table}
use Rattle.oauth2_openid_login.proofs.login_json.OpenIdLoginFromJson.from_json.Goals as goal

pub returns-in_err-login : goal.returns-in_err-login
returns-in_err-login c =
    let p = err_from_is_err_and c.from_residual.result c.from_residual.ensures.1 in
    rw (p.1, p.2) (after_errs OpenIdKept login_table login_view_of openid_login_table openid_kept refl (view c.args.value) c.in_err-login.field-0.0 c.in_err-login.ensures)

pub returns : goal.returns
returns c =
    let read = after_built OpenIdKept login_table login_view_of openid_login_table openid_kept refl (view c.args.value) _ c.in_ok-login.ensures in
    rw (c.new-2.ensures, c.new.ensures) read
