use Rattle.std.proofs.Common.{◌≡◌}
use Rattle.oauth2_form.specs.Params.{with_scopes}
use Rattle.oauth2_grants.proofs.extension_token_request.add_scopes.Given as goal

abbrev pub invariant-loop-scope : goal.invariant-loop-scope
invariant-loop-scope g l = l.buffer ≡ record l.initial.buffer { scope = with_scopes l.initial.buffer.scope l.yielded }
