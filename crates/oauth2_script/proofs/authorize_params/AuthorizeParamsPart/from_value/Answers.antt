use Rattle.std.proofs.lemmas.Iterator.Adapters.{option_map_id}
use Rattle.std.proofs.lemmas.List.{map-id}
use Rattle.serde_json.specs.View.{view}
use Rattle.oauth2_script.specs.AuthorizeParams.{authorize_params}
use Rattle.oauth2_script_values.specs.Gives.{TellsPartError}
use Rattle.oauth2_script.proofs.Refusals.{Refuses-then, Gives-refused}
use Rattle.oauth2_script.proofs.authorize_params.AuthorizeParamsPart.from_value.Goals as goal

pub returns-in_err-response_type-clause-read : goal.returns-in_err-response_type-clause-read
unfolding authorize_params
returns-in_err-response_type-clause-read c =
    let refused : TellsPartError c.in_err-response_type.field-0.0 (authorize_params (view c.args.value.now)) =
    rw (c.in_ok-state.ensures.read, c.in_ok-scopes.ensures, c.in_ok-extra_params.ensures, c.in_ok-challenge.ensures.read, c.in_ok-redirect.ensures.read)
    (Refuses-then c.in_err-response_type.field-0.0 _ _ c.in_err-response_type.ensures.read) in
    Gives-refused _ c.from_residual-in_err-response_type.result c.in_err-response_type.field-0.0 _ c.from_residual-in_err-response_type.ensures.1 refused

pub returns-in_err-nonce-clause-read : goal.returns-in_err-nonce-clause-read
unfolding authorize_params
returns-in_err-nonce-clause-read c =
    let refused : TellsPartError c.in_err-nonce.field-0.0 (authorize_params (view c.args.value.now)) =
    rw (c.in_ok-state.ensures.read, c.in_ok-scopes.ensures, c.in_ok-extra_params.ensures, c.in_ok-challenge.ensures.read, c.in_ok-redirect.ensures.read, c.in_ok-response_type.ensures.read)
    (Refuses-then c.in_err-nonce.field-0.0 _ _ c.in_err-nonce.ensures.read) in
    Gives-refused _ c.from_residual-in_err-nonce.result c.in_err-nonce.field-0.0 _ c.from_residual-in_err-nonce.ensures.1 refused

pub returns-clause-read : goal.returns-clause-read
unfolding authorize_params
returns-clause-read c =
    rw (
      c.in_ok-state.ensures.read,
      c.in_ok-scopes.ensures,
      c.in_ok-extra_params.ensures,
      c.in_ok-challenge.ensures.read,
      c.in_ok-redirect.ensures.read,
      c.in_ok-response_type.ensures.read,
      c.in_ok-nonce.ensures.read,
    ) (simp (option_map_id, map-id))
