use Rattle.std.proofs.Common.{◌≡◌, ℕ, ◌≤◌, List, false, length, drop, map}
use Rattle.oauth2_wire.specs.ServerView.{pair_texts}
use Rattle.oauth2_adapters.specs.FormBodies.{has_pair, repeats}
use Rattle.oauth2_adapters.specs.private.Names.{has_name}
use Rattle.oauth2_adapters.proofs.form_bodies.repeats.Given as goal

abbrev pub invariant-loop-index : goal.invariant-loop-index
invariant-loop-index l =
    (l.index ≤ length l.pairs) × (repeats (map pair_texts (drop l.index l.pairs)) ≡ false)
    × ((name : List ℕ) → has_name l.names name ≡ has_pair name (map pair_texts (drop l.index l.pairs)))

abbrev pub decreases-loop-index : goal.decreases-loop-index
decreases-loop-index l = l.index
