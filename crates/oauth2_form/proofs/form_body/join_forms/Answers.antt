use Rattle.std.proofs.Common.{◌≡◌, ◌<◌, ◌++◌, ◌∷◌, [], length, ap, ◌∙◌, rules, append_assoc}
use Rattle.oauth2_form.proofs.WrittenLemmas.{JoinsForms_right_empty, JoinsForms_left_empty, JoinsForms_both}
use Rattle.oauth2_form.proofs.form_body.join_forms.Goals as goal

pub returns-then-is_empty : goal.returns-then-is_empty
returns-then-is_empty c = λ wa wb.
    let none : length c.args.other.now ≡ 0 = search rules in
    JoinsForms_right_empty c.args.text.items c.args.other.now wa none

pub returns-then-is_empty-2 : goal.returns-then-is_empty-2
returns-then-is_empty-2 c = λ wa wb.
    let none : length c.args.text.items ≡ 0 = search rules in
    JoinsForms_left_empty c.args.text.items c.args.other.now c.extend_from_slice.new.self.items wb none c.in_ok-extend_from_slice.ensures.items

pub returns : goal.returns
returns c = λ wa wb.
    let long : 0 < length c.args.text.items = search rules in
    let longer : 0 < length c.args.other.now = search rules in
    let marked : c.push.new.self.items ≡ c.args.text.items ++ 38 ∷ [] = search rules in
    JoinsForms_both c.args.text.items c.args.other.now c.extend_from_slice-2.new.self.items wa wb long longer
    (c.in_ok-extend_from_slice-2.ensures.items ∙ ap (λ x. x ++ c.args.other.now) marked ∙ append_assoc c.args.text.items (38 ∷ []) c.args.other.now)
