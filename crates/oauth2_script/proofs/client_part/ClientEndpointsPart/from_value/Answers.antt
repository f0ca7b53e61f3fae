use Rattle.std.proofs.lemmas.Iterator.Adapters.{option_map_id}
use Rattle.serde_json.specs.View.{view}
use Rattle.oauth2_script.specs.Client.{endpoints}
use Rattle.oauth2_script_values.specs.Gives.{TellsPartError}
use Rattle.oauth2_script.proofs.Refusals.{Refuses-then, Gives-refused}
use Rattle.oauth2_script.proofs.client_part.ClientEndpointsPart.from_value.Goals as goal

pub returns-in_err-revocation-clause-read : goal.returns-in_err-revocation-clause-read
unfolding endpoints
returns-in_err-revocation-clause-read c =
    let refused : TellsPartError c.in_err-revocation.field-0.0 (endpoints (view c.args.value.now)) =
    rw (c.in_ok-auth.ensures.read, c.in_ok-token.ensures.read, c.in_ok-device.ensures.read, c.in_ok-introspection.ensures.read)
    (Refuses-then c.in_err-revocation.field-0.0 _ _ c.in_err-revocation.ensures.read) in
    Gives-refused _ c.from_residual-in_err-revocation.result c.in_err-revocation.field-0.0 _ c.from_residual-in_err-revocation.ensures.1 refused

pub returns-in_err-push-clause-read : goal.returns-in_err-push-clause-read
unfolding endpoints
returns-in_err-push-clause-read c =
    let refused : TellsPartError c.in_err-push.field-0.0 (endpoints (view c.args.value.now)) =
    rw (c.in_ok-auth.ensures.read, c.in_ok-token.ensures.read, c.in_ok-device.ensures.read, c.in_ok-introspection.ensures.read, c.in_ok-revocation.ensures.read)
    (Refuses-then c.in_err-push.field-0.0 _ _ c.in_err-push.ensures.read) in
    Gives-refused _ c.from_residual-in_err-push.result c.in_err-push.field-0.0 _ c.from_residual-in_err-push.ensures.1 refused

pub returns-clause-read : goal.returns-clause-read
unfolding endpoints
returns-clause-read c =
    rw (c.in_ok-auth.ensures.read, c.in_ok-token.ensures.read, c.in_ok-device.ensures.read, c.in_ok-introspection.ensures.read, c.in_ok-revocation.ensures.read, c.in_ok-push.ensures.read)
    (simp option_map_id)
