use Rattle.std.proofs.Common.{rules}
use Rattle.serde_json.specs.View.{view}
use Rattle.oauth2_script.specs.RedirectParams.{redirect_params}
use Rattle.oauth2_script_values.specs.Gives.{TellsPartError}
use Rattle.oauth2_script.proofs.Refusals.{Refuses-then, Gives-refused}
use Rattle.oauth2_script.proofs.redirect_params.RedirectParamsPart.from_value.Goals as goal

pub returns-in_err-issuer_compared-clause-read : goal.returns-in_err-issuer_compared-clause-read
unfolding redirect_params
returns-in_err-issuer_compared-clause-read c =
    let refused : TellsPartError c.in_err-issuer_compared.field-0.0 (redirect_params (view c.args.value.now)) =
    rw (c.in_ok-state.ensures.read, c.in_ok-redirect.ensures.read, c.in_ok-login.ensures.read, c.in_ok-issuer.ensures.read)
    (Refuses-then c.in_err-issuer_compared.field-0.0 _ _ c.in_err-issuer_compared.ensures.read) in
    Gives-refused _ c.from_residual-in_err-issuer_compared.result c.in_err-issuer_compared.field-0.0 _ c.from_residual-in_err-issuer_compared.ensures.1 refused

pub returns-in_err-issuer_of-clause-read : goal.returns-in_err-issuer_of-clause-read
unfolding redirect_params
returns-in_err-issuer_of-clause-read c =
    let refused : TellsPartError c.in_err-issuer_of.field-0.0 (redirect_params (view c.args.value.now)) =
    rw (c.in_ok-state.ensures.read, c.in_ok-redirect.ensures.read, c.in_ok-login.ensures.read, c.in_ok-issuer.ensures.read, c.in_ok-issuer_compared.ensures.read)
    (Refuses-then c.in_err-issuer_of.field-0.0 _ _ c.in_err-issuer_of.ensures) in
    Gives-refused _ c.from_residual-in_err-issuer_of.result c.in_err-issuer_of.field-0.0 _ c.from_residual-in_err-issuer_of.ensures.1 refused

pub returns-clause-read : goal.returns-clause-read
unfolding redirect_params
returns-clause-read c =
    rw (c.in_ok-state.ensures.read, c.in_ok-redirect.ensures.read, c.in_ok-login.ensures.read, c.in_ok-issuer.ensures.read, c.in_ok-issuer_compared.ensures.read, c.in_ok-issuer_of.ensures)
    (search rules)
