use Rattle.std.proofs.Common.{◌≡◌, ◌+◌, ◌∷◌, drop, is_some, true, sym, ap, ◌∙◌, arith, rules}
use Rattle.std.proofs.lemmas.List.{drop_more}
use Rattle.json.specs.Value.{value_view, members_view as named_view}
use Rattle.serde_json.specs.Data.{no_members}
use Rattle.serde_json.specs.Read.{of_json, of_members}
use Rattle.oauth2_body_members.proofs.Conversions.{member_past}
use Rattle.oauth2_body_members.proofs.nested.+is_value.Goals as goal

pub have_values-loop-member-preserved : goal.have_values-loop-member-preserved
have_values-loop-member-preserved t c =
    let l = c.loop-member in
    let items = c.deref-member-items.result.now in
    let m = c.member-item.result in
    let here : drop l.member-index items ≡ m ∷ drop (l.member-index + 1) items = drop_more items l.member-index m (omega arith) ∙ ap (λ y. y ∷ drop (l.member-index + 1) items) (sym c.member-item.is) in
    let read : is_some (of_json (value_view m.1)) ≡ true = search rules in
    l.invariant ∙ ap (λ ms. is_some (of_members (named_view ms) no_members)) here ∙ member_past m.0.now (value_view m.1) (named_view (drop (l.member-index + 1) items)) no_members read
