use Rattle.std.proofs.Common.{◌≡◌, map, string_bytes}
use Rattle.std.specs.Vec.Iter.{into_iter_items}
use Rattle.serde_json.specs.View.{items_view}
use Rattle.oauth2_json.proofs.Words.{in_front}
use Rattle.oauth2_json.specs.Values.{each_text}
use Rattle.oauth2_json.proofs.text_lists.each.Given as goal

abbrev pub invariant-loop-item : goal.invariant-loop-item
invariant-loop-item l =
    (goal.iterator-loop-item).can_next l.item-iterator
    × (goal.iterator-loop-item).is_finite l.item-iterator
    × (in_front (map string_bytes l.list.items) (each_text (items_view (into_iter_items l.item-iterator))) ≡ each_text (items_view (into_iter_items l.initial.item-iterator)))
