use Rattle.std.proofs.Common.{◌≡◌, ◌+◌, ◌++◌, [], ◌∷◌, drop, length, map, Some, option_map, string_bytes, sym, ap, ◌∙◌, arith, rules}
use Rattle.std.proofs.Math.Seq.{drop-length}
use Rattle.std.proofs.lemmas.List.{drop_more, map-append}
use Rattle.json.specs.Value.{value_view, items_view as texts_view, members_view as named_view}
use Rattle.serde_json.specs.Data.{put}
use Rattle.serde_json.specs.Read.{of_json, of_items, of_members}
use Rattle.serde_json.specs.View.{view, items_view, members_view}
use Rattle.serde_json.proofs.Views.{members_view-insert_entry}
use Rattle.oauth2_body_members.specs.private.Texts.{or_not_json}
use Rattle.oauth2_body_members.proofs.Conversions.{after, after-none, item_read, member_read, or_none}
use Rattle.oauth2_body_members.proofs.nested.+owned.Goals as goal

pub owned_items-loop-item-preserved : goal.owned_items-loop-item-preserved
owned_items-loop-item-preserved t c =
    let l = c.loop-item in
    let items = c.deref-item-items.result.now in
    let v = c.in_ok-owned_value.field-0 in
    let x = c.item-item.result in
    let here : drop l.item-index items ≡ x ∷ drop (l.item-index + 1) items = drop_more items l.item-index x (omega arith) ∙ ap (λ y. y ∷ drop (l.item-index + 1) items) (sym c.item-item.is) in
    let read : of_json (value_view x) ≡ Some (view v) = or_none _ _ c.in_ok-owned_value.ensures in
    let done : map view c.push.new.self.items ≡ map view l.list.items ++ view v ∷ [] = ap (map view) c.in_ok-push.ensures.items ∙ map-append view l.list.items (v ∷ []) in
    l.invariant ∙ ap (λ vs. option_map (after (map view l.list.items)) (of_items (texts_view vs))) here ∙ item_read (map view l.list.items) (value_view x) (view v) (texts_view (drop (l.item-index + 1) items)) read
    ∙ ap (λ ds. option_map (after ds) (of_items (texts_view (drop (l.item-index + 1) items)))) (sym done)

pub owned_items-returns : goal.owned_items-returns
owned_items-returns t c =
    let l = c.loop-item in
    let items = c.deref-item-items.result.now in
    let end : l.item-index ≡ length items = omega arith in
    let none : drop l.item-index items ≡ [] = ap (λ i. drop i items) end ∙ drop-length items in
    let all : of_items (texts_view items) ≡ Some (items_view l.list.items) = l.invariant ∙ ap (λ vs. option_map (after (map view l.list.items)) (of_items (texts_view vs))) none ∙ ap Some (after-none (map view l.list.items)) in
    ap (λ vs. or_not_json (of_items (texts_view vs))) (sym c.deref-item-items.ensures.value) ∙ ap or_not_json all

pub owned_members-loop-member-preserved : goal.owned_members-loop-member-preserved
owned_members-loop-member-preserved t c =
    let l = c.loop-member in
    let items = c.deref-member-items.result.now in
    let v = c.in_ok-owned_value.field-0 in
    let m = c.member-item.result in
    let here : drop l.member-index items ≡ m ∷ drop (l.member-index + 1) items = drop_more items l.member-index m (omega arith) ∙ ap (λ y. y ∷ drop (l.member-index + 1) items) (sym c.member-item.is) in
    let read : of_json (value_view m.1) ≡ Some (view v) = or_none _ _ c.in_ok-owned_value.ensures in
    let named : string_bytes c.in_ok-name.name ≡ m.0.now = search rules in
    let inserted : members_view c.insert.new.self.entries ≡ put m.0.now (view v) (members_view l.map.entries) =
    ap members_view c.in_ok-insert.ensures.entries ∙ members_view-insert_entry l.map.entries c.in_ok-name.name v ∙ ap (λ name. put name (view v) (members_view l.map.entries)) named in
    l.invariant ∙ ap (λ ms. of_members (named_view ms) (members_view l.map.entries)) here ∙ member_read m.0.now (value_view m.1) (view v) (named_view (drop (l.member-index + 1) items)) (members_view l.map.entries) read
    ∙ ap (of_members (named_view (drop (l.member-index + 1) items))) (sym inserted)
