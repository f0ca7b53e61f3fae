use Rattle.std.proofs.Common.{◌≡◌}
use Rattle.oauth2_form.specs.Params.{with_scopes}
use Rattle.oauth2_requests.proofs.base_request.BaseRequest.add_scopes.Given as goal

abbrev pub invariant-loop-scope : goal.invariant-loop-scope
invariant-loop-scope g l = l.self ≡ record l.initial.self { scope = with_scopes l.initial.self.scope l.yielded }
