use Rattle.std.proofs.Common.{◌≡◌, ◌++◌, drop, filter, map}
use Rattle.oauth2_wire.specs.ByName.{bears}
use Rattle.oauth2_pushed_requests.specs.private.Read.{pair_texts}
use Rattle.oauth2_pushed_requests.proofs.Kept.{kept}
use Rattle.oauth2_pushed_requests.proofs.query_pairs.sole_value.Given as goal

abbrev pub invariant-loop-pair : goal.invariant-loop-pair
invariant-loop-pair l =
    kept l.name l.found ++ filter (bears l.name) (map pair_texts (drop l.pair-index l.pairs)) ≡ filter (bears l.name) (map pair_texts l.pairs)
