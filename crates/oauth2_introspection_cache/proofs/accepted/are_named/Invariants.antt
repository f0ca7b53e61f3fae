use Rattle.std.proofs.Common.{◌≡◌, map, drop}
use Rattle.oauth2_introspection_cache.specs.Decision.{are_among}
use Rattle.oauth2_introspection_cache.proofs.accepted.are_named.Given as goal

abbrev pub invariant-loop-scope : goal.invariant-loop-scope
invariant-loop-scope l = are_among (map (λ s. s.now) l.needed) l.scopes ≡ are_among (map (λ s. s.now) (drop l.scope-index l.needed)) l.scopes
