use Rattle.std.proofs.Common.{◌≡◌, drop, map}
use Rattle.oauth2_keeper.specs.TokenTypes.{is_one_of}
use Rattle.oauth2_keeper.proofs.token_types.is_one_of.Given as goal

abbrev pub invariant-loop-name : goal.invariant-loop-name
invariant-loop-name l = is_one_of (map (λ n. n.now) l.token_types) l.found ≡ is_one_of (map (λ n. n.now) (drop l.name-index l.token_types)) l.found
