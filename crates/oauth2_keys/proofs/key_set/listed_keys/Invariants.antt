use Rattle.std.proofs.Common.{◌≡◌, ◌++◌, drop}
use Rattle.serde_json.specs.View.{items_view}
use Rattle.oauth2_keys.specs.KeySet.{listed_keys}
use Rattle.oauth2_keys.proofs.key_set.listed_keys.Given as goal

abbrev pub invariant-loop-item : goal.invariant-loop-item
invariant-loop-item l = l.keys.items ++ listed_keys (items_view (drop l.item-index l.items)) ≡ listed_keys (items_view l.items)
