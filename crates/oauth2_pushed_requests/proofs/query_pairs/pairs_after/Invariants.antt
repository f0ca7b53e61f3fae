use Rattle.std.proofs.Common.{◌≡◌, drop, map}
use Rattle.oauth2_pushed_requests.specs.Parameters.{pairs_after}
use Rattle.oauth2_pushed_requests.specs.private.Read.{pair_bytes}
use Rattle.oauth2_pushed_requests.proofs.query_pairs.pairs_after.Given as goal

abbrev pub invariant-loop-pair : goal.invariant-loop-pair
invariant-loop-pair l =
    pairs_after (map pair_bytes (drop l.pair-index l.own)) (map pair_bytes l.rest) ≡ pairs_after (map pair_bytes l.own) (map pair_bytes l.all)
