use Rattle.std.proofs.Common.{◌≡◌}
use Rattle.oauth2_form.specs.Params.{with_scopes}
use Rattle.oauth2_keeper.proofs.scopes.joined_scopes.Given as goal

abbrev pub invariant-loop-scope : goal.invariant-loop-scope
invariant-loop-scope g l = l.joined ≡ with_scopes l.fn.scopes l.yielded
