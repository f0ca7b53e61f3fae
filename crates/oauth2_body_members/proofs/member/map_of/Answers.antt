use Rattle.std.proofs.Common.{◌≡◌, ◌∷◌, map, option_map, string_bytes, sym, ap, ◌∙◌, rules}
use Rattle.std.specs.Vec.Iter.{into_iter_items}
use Rattle.serde_json.specs.Data.{put}
use Rattle.serde_json.specs.View.{view, members_view}
use Rattle.serde_json.proofs.Views.{members_view-insert_entry}
use Rattle.oauth2_json.specs.Members.{put_some}
use Rattle.oauth2_body_members.specs.Object.{put_each, entry_of}
use Rattle.oauth2_body_members.proofs.member.map_of.Goals as goal

pub loop-member-preserved-in-Some-value : goal.loop-member-preserved-in-Some-value
loop-member-preserved-in-Some-value c =
    let l = c.loop-member in
    let m = c.in-Some.member in
    let v = c.in-Some-value.value in
    let rest = into_iter_items c.next.new.self in
    let acc = members_view l.map.entries in
    let named : string_bytes c.in_ok-name.name ≡ m.name.now = search rules in
    let inserted : members_view c.insert.new.self.entries ≡ put m.name.now (view v) acc =
    ap members_view c.in_ok-insert.ensures.entries ∙ members_view-insert_entry l.map.entries c.in_ok-name.name v ∙ ap (λ name. put name (view v) acc) named in
    let one : put_some m.name.now (option_map view m.value) acc ≡ put m.name.now (view v) acc = ap (λ o. put_some m.name.now (option_map view o) acc) c.in-Some-value.is in
    let steps : into_iter_items l.member-iterator ≡ m ∷ rest = search rules in
    (tt, tt, ap (put_each (map entry_of rest)) (inserted ∙ sym one) ∙ ap (λ es. put_each (map entry_of es) acc) (sym steps) ∙ l.invariant.2)
