use Rattle.std.proofs.Common.{◌≡◌, take}
use Rattle.oauth2_form.specs.Params.{with_scopes}
use Rattle.oauth2_wire.proofs.request.add_scopes.Given as goal

abbrev pub invariant-loop-scope : goal.invariant-loop-scope
invariant-loop-scope l = l.buffer ≡ record l.initial.buffer { scope = with_scopes l.initial.buffer.scope (take l.scope-index l.scopes) }
