use Rattle.std.proofs.Common.{◌≡◌, ◌++◌, map, take}
use Rattle.oauth2_grants.specs.TokenExchange.{pairs_named}
use Rattle.oauth2_grants.proofs.token_exchange.add_each.Given as goal

abbrev pub invariant-loop-value : goal.invariant-loop-value
invariant-loop-value l = l.params ≡ record l.initial.params { extra_params = l.initial.params.extra_params ++ pairs_named l.name (map (λ v. v.now) (take l.value-index l.values)) }
