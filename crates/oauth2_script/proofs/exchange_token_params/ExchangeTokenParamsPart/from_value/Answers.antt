use Rattle.std.proofs.lemmas.Iterator.Adapters.{option_map_id}
use Rattle.std.proofs.lemmas.List.{map-id}
use Rattle.serde_json.specs.View.{view}
use Rattle.oauth2_script.specs.ExchangeTokenParams.{exchange_token_params}
use Rattle.oauth2_script_values.specs.Gives.{TellsPartError}
use Rattle.oauth2_script.proofs.Refusals.{Refuses-then, Gives-refused}
use Rattle.oauth2_script.proofs.exchange_token_params.ExchangeTokenParamsPart.from_value.Goals as goal

pub returns-in_err-scopes-clause-read : goal.returns-in_err-scopes-clause-read
unfolding exchange_token_params
returns-in_err-scopes-clause-read c =
    let refused : TellsPartError c.in_err-scopes.field-0.0 (exchange_token_params (view c.args.value.now)) =
    rw (c.in_ok-subject.ensures, c.in_ok-actor.ensures, c.in_ok-requested_token_type.ensures.read, c.in_ok-resources.ensures, c.in_ok-audiences.ensures)
    (Refuses-then c.in_err-scopes.field-0.0 _ _ c.in_err-scopes.ensures) in
    Gives-refused _ c.from_residual-in_err-scopes.result c.in_err-scopes.field-0.0 _ c.from_residual-in_err-scopes.ensures.1 refused

pub returns-in_err-extra_params-clause-read : goal.returns-in_err-extra_params-clause-read
unfolding exchange_token_params
returns-in_err-extra_params-clause-read c =
    let refused : TellsPartError c.in_err-extra_params.field-0.0 (exchange_token_params (view c.args.value.now)) =
    rw (c.in_ok-subject.ensures, c.in_ok-actor.ensures, c.in_ok-requested_token_type.ensures.read, c.in_ok-resources.ensures, c.in_ok-audiences.ensures, c.in_ok-scopes.ensures)
    (Refuses-then c.in_err-extra_params.field-0.0 _ _ c.in_err-extra_params.ensures) in
    Gives-refused _ c.from_residual-in_err-extra_params.result c.in_err-extra_params.field-0.0 _ c.from_residual-in_err-extra_params.ensures.1 refused

pub returns-clause-read : goal.returns-clause-read
unfolding exchange_token_params
returns-clause-read c =
    rw (
      c.in_ok-subject.ensures,
      c.in_ok-actor.ensures,
      c.in_ok-requested_token_type.ensures.read,
      c.in_ok-resources.ensures,
      c.in_ok-audiences.ensures,
      c.in_ok-scopes.ensures,
      c.in_ok-extra_params.ensures,
    ) (simp (option_map_id, map-id))
