use Rattle.std.proofs.Common.{◌≡◌, drop, map}
use Rattle.oauth2_pushed_requests.specs.Parameters.{has_name}
use Rattle.oauth2_pushed_requests.specs.private.Read.{pair_texts}
use Rattle.oauth2_pushed_requests.proofs.query_pairs.has_name.Given as goal

abbrev pub invariant-loop-pair : goal.invariant-loop-pair
invariant-loop-pair l = has_name l.name (map pair_texts (drop l.pair-index l.pairs)) ≡ has_name l.name (map pair_texts l.pairs)
