use Rattle.std.proofs.Common.{◌≡◌, drop, is_some}
use Rattle.json.specs.Value.{items_view as texts_view, members_view as named_view}
use Rattle.serde_json.specs.Data.{no_members}
use Rattle.serde_json.specs.Read.{of_items, of_members}
use Rattle.oauth2_body_members.proofs.nested.+is_value.Given as goal

abbrev pub invariant-are_values-loop-item : goal.invariant-are_values-loop-item
invariant-are_values-loop-item l =
    is_some (of_items (texts_view l.item-items)) ≡ is_some (of_items (texts_view (drop l.item-index l.item-items)))

abbrev pub invariant-have_values-loop-member : goal.invariant-have_values-loop-member
invariant-have_values-loop-member l =
    is_some (of_members (named_view l.member-items) no_members) ≡ is_some (of_members (named_view (drop l.member-index l.member-items)) no_members)
