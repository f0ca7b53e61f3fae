use Rattle.std.proofs.Common.{◌++◌, ◌∷◌, [], ap, ◌∙◌, arith}
use Rattle.std.proofs.lemmas.List.Elements.{All-from_get_or}
use Rattle.oauth2_form.specs.Pairs.{IsByte}
use Rattle.form_urlencoded.specs.Form.{parse}
use Rattle.oauth2_form.proofs.FormLaws.{parse-append_pair}
use Rattle.oauth2_form.proofs.WrittenLemmas.{IsWritten-append_pair}
use Rattle.oauth2_form.proofs.form_body.FormBody.push_plain.Goals as goal

pub invariant_of-self-2 : goal.invariant_of-self-2
invariant_of-self-2 c =
    let name_bytes = All-from_get_or IsByte c.args.name.now 0 (λ i _. omega (arith, c.type_inv.name i)) in
    let value_bytes = All-from_get_or IsByte c.args.value.now 0 (λ i _. omega (arith, c.type_inv.value i)) in
    IsWritten-append_pair c.self.inside.text.items c.append_plain_pair.new.form.items (c.args.name.now, c.args.value.now) c.self.invariant (name_bytes, value_bytes) c.in_ok-append_plain_pair.ensures.ok.text

pub returns-clause-ok : goal.returns-clause-ok
returns-clause-ok c =
    let name_bytes = All-from_get_or IsByte c.args.name.now 0 (λ i _. omega (arith, c.type_inv.name i)) in
    let value_bytes = All-from_get_or IsByte c.args.value.now 0 (λ i _. omega (arith, c.type_inv.value i)) in
    ap parse c.in_ok-append_plain_pair.ensures.ok.text ∙ parse-append_pair c.self.inside.text.items (c.args.name.now, c.args.value.now) (name_bytes, value_bytes)
    ∙ ap (λ x. x ++ (c.args.name.now, c.args.value.now) ∷ []) c.self.view_is
