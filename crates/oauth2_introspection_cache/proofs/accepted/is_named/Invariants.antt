use Rattle.std.proofs.Common.{◌≡◌, drop}
use Rattle.oauth2_introspection_cache.specs.Decision.{is_among}
use Rattle.oauth2_introspection_cache.proofs.accepted.is_named.Given as goal

abbrev pub invariant-loop-each : goal.invariant-loop-each
invariant-loop-each l = is_among l.scope l.scopes ≡ is_among l.scope (drop l.each-index l.scopes)
