use Rattle.std.proofs.Common.{◌≡◌, drop, map, option_map}
use Rattle.json.specs.Value.{items_view as texts_view, members_view as named_view}
use Rattle.serde_json.specs.Data.{no_members}
use Rattle.serde_json.specs.Read.{of_items, of_members}
use Rattle.serde_json.specs.View.{view, members_view}
use Rattle.oauth2_body_members.proofs.Conversions.{after}
use Rattle.oauth2_body_members.proofs.nested.+owned.Given as goal

abbrev pub invariant-owned_items-loop-item : goal.invariant-owned_items-loop-item
invariant-owned_items-loop-item l =
    of_items (texts_view l.item-items) ≡ option_map (after (map view l.list.items)) (of_items (texts_view (drop l.item-index l.item-items)))

abbrev pub invariant-owned_members-loop-member : goal.invariant-owned_members-loop-member
invariant-owned_members-loop-member l =
    of_members (named_view l.member-items) no_members ≡ of_members (named_view (drop l.member-index l.member-items)) (members_view l.map.entries)
