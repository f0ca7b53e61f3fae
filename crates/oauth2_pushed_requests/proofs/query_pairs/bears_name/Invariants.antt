use Rattle.std.proofs.Common.{◌≡◌, drop, map}
use Rattle.oauth2_pushed_requests.specs.Parameters.{has_name}
use Rattle.oauth2_pushed_requests.specs.private.Read.{pair_bytes}
use Rattle.oauth2_pushed_requests.proofs.query_pairs.bears_name.Given as goal

abbrev pub invariant-loop-pair : goal.invariant-loop-pair
invariant-loop-pair l = has_name l.name (map pair_bytes (drop l.pair-index l.pairs)) ≡ has_name l.name (map pair_bytes l.pairs)
