use Rattle.std.proofs.Common.{◌≡◌, map, take}
use Rattle.std.specs.Prelude.{string_bytes}
use Rattle.oauth2_form.specs.Params.{with_scopes}
use Rattle.oauth2_bench.proofs.client_credentials.with_all_scopes.Given as goal

abbrev pub invariant-loop-scope : goal.invariant-loop-scope
invariant-loop-scope l = l.request ≡ record l.initial.request {
  base = record l.initial.request.base { scope = with_scopes l.initial.request.base.scope (map string_bytes (take l.scope-index l.scopes)) };
}
