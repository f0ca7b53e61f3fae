use Rattle.std.proofs.Common.{◌≡◌, drop, map, take}
use Rattle.std.specs.List.{list_all}
use Rattle.oauth2_pushed_requests.specs.Parameters.{is_text_pair}
use Rattle.oauth2_pushed_requests.specs.private.Read.{pair_bytes, pair_texts}
use Rattle.oauth2_pushed_requests.proofs.query_pairs.texts_of.Given as goal

abbrev pub invariant-loop-pair : goal.invariant-loop-pair
invariant-loop-pair l =
    (map pair_texts l.texts.items ≡ map pair_bytes (take l.pair-index l.pairs))
    × (list_all is_text_pair (map pair_bytes (drop l.pair-index l.pairs)) ≡ list_all is_text_pair (map pair_bytes l.pairs))
