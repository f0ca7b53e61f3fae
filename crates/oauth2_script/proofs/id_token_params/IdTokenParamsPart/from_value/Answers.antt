use Rattle.std.proofs.Common.{rules}
use Rattle.serde_json.specs.View.{view}
use Rattle.oauth2_script.specs.IdTokenParams.{id_token_params}
use Rattle.oauth2_script_values.specs.Gives.{TellsPartError}
use Rattle.oauth2_script.proofs.Refusals.{Refuses-then, Gives-refused}
use Rattle.oauth2_script.proofs.id_token_params.IdTokenParamsPart.from_value.Goals as goal

pub returns-in_err-nonce-clause-read : goal.returns-in_err-nonce-clause-read
unfolding id_token_params
returns-in_err-nonce-clause-read c =
    let refused : TellsPartError c.in_err-nonce.field-0.0 (id_token_params (view c.args.value.now)) =
    rw (c.in_ok-id_token.ensures.read, c.in_ok-access_token.ensures.read, c.in_ok-issuer.ensures.read, c.in_ok-algorithm.ensures.read, c.in_ok-keys.ensures.read)
    (Refuses-then c.in_err-nonce.field-0.0 _ _ c.in_err-nonce.ensures.read) in
    Gives-refused _ c.from_residual-in_err-nonce.result c.in_err-nonce.field-0.0 _ c.from_residual-in_err-nonce.ensures.1 refused

pub returns-in_err-leeway-clause-read : goal.returns-in_err-leeway-clause-read
unfolding id_token_params
returns-in_err-leeway-clause-read c =
    let refused : TellsPartError c.in_err-leeway.field-0.0 (id_token_params (view c.args.value.now)) =
    rw (c.in_ok-id_token.ensures.read, c.in_ok-access_token.ensures.read, c.in_ok-issuer.ensures.read, c.in_ok-algorithm.ensures.read, c.in_ok-keys.ensures.read, c.in_ok-nonce.ensures.read)
    (Refuses-then c.in_err-leeway.field-0.0 _ _ c.in_err-leeway.ensures.read) in
    Gives-refused _ c.from_residual-in_err-leeway.result c.in_err-leeway.field-0.0 _ c.from_residual-in_err-leeway.ensures.1 refused

pub returns-in_err-max_age-clause-read : goal.returns-in_err-max_age-clause-read
unfolding id_token_params
returns-in_err-max_age-clause-read c =
    let refused : TellsPartError c.in_err-max_age.field-0.0 (id_token_params (view c.args.value.now)) =
    rw (c.in_ok-id_token.ensures.read, c.in_ok-access_token.ensures.read, c.in_ok-issuer.ensures.read, c.in_ok-algorithm.ensures.read, c.in_ok-keys.ensures.read, c.in_ok-nonce.ensures.read, c.in_ok-leeway.ensures.read)
    (Refuses-then c.in_err-max_age.field-0.0 _ _ c.in_err-max_age.ensures.read) in
    Gives-refused _ c.from_residual-in_err-max_age.result c.in_err-max_age.field-0.0 _ c.from_residual-in_err-max_age.ensures.1 refused

pub returns-in_err-other_audiences-clause-read : goal.returns-in_err-other_audiences-clause-read
unfolding id_token_params
returns-in_err-other_audiences-clause-read c =
    let refused : TellsPartError c.in_err-other_audiences.field-0.0 (id_token_params (view c.args.value.now)) =
    rw (c.in_ok-id_token.ensures.read, c.in_ok-access_token.ensures.read, c.in_ok-issuer.ensures.read, c.in_ok-algorithm.ensures.read, c.in_ok-keys.ensures.read, c.in_ok-nonce.ensures.read, c.in_ok-leeway.ensures.read, c.in_ok-max_age.ensures.read)
    (Refuses-then c.in_err-other_audiences.field-0.0 _ _ c.in_err-other_audiences.ensures) in
    Gives-refused _ c.from_residual-in_err-other_audiences.result c.in_err-other_audiences.field-0.0 _ c.from_residual-in_err-other_audiences.ensures.1 refused

pub returns-in_err-authorized_parties-clause-read : goal.returns-in_err-authorized_parties-clause-read
unfolding id_token_params
returns-in_err-authorized_parties-clause-read c =
    let refused : TellsPartError c.in_err-authorized_parties.field-0.0 (id_token_params (view c.args.value.now)) =
    rw (c.in_ok-id_token.ensures.read, c.in_ok-access_token.ensures.read, c.in_ok-issuer.ensures.read, c.in_ok-algorithm.ensures.read, c.in_ok-keys.ensures.read, c.in_ok-nonce.ensures.read, c.in_ok-leeway.ensures.read, c.in_ok-max_age.ensures.read, c.in_ok-other_audiences.ensures)
    (Refuses-then c.in_err-authorized_parties.field-0.0 _ _ c.in_err-authorized_parties.ensures) in
    Gives-refused _ c.from_residual-in_err-authorized_parties.result c.in_err-authorized_parties.field-0.0 _ c.from_residual-in_err-authorized_parties.ensures.1 refused

pub returns-clause-read : goal.returns-clause-read
unfolding id_token_params
returns-clause-read c =
    rw (c.in_ok-id_token.ensures.read, c.in_ok-access_token.ensures.read, c.in_ok-issuer.ensures.read, c.in_ok-algorithm.ensures.read, c.in_ok-keys.ensures.read, c.in_ok-nonce.ensures.read, c.in_ok-leeway.ensures.read, c.in_ok-max_age.ensures.read, c.in_ok-other_audiences.ensures, c.in_ok-authorized_parties.ensures)
    (search rules)
