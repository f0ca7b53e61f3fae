use Rattle.std.proofs.Common.{◌++◌, ◌∷◌, [], ap, ◌∙◌, arith}
use Rattle.std.proofs.lemmas.List.Elements.{All-from_get_or}
use Rattle.oauth2_form.specs.Pairs.{IsByte}
use Rattle.form_urlencoded.specs.Form.{parse}
use Rattle.oauth2_form.proofs.FormLaws.{parse-append_pair}
use Rattle.oauth2_form.proofs.WrittenLemmas.{IsWritten-append_pair}
use Rattle.oauth2_form.proofs.form_body.FormBody.push_encoded.Goals as goal

pub invariant_of-result : goal.invariant_of-result
invariant_of-result c =
    let bytes = All-from_get_or IsByte c.args.name.now 0 (λ i _. omega (arith, c.type_inv.name i)) in
    IsWritten-append_pair c.self.inside.text.items c.in_ok-text.text.items (c.args.name.now, c.args.value.now) c.self.invariant (bytes, c.as_encoded.ensures.bytes) (c.in_ok-text.ensures c.args.value.now c.as_encoded.ensures.text)

pub returns : goal.returns
returns c =
    let bytes = All-from_get_or IsByte c.args.name.now 0 (λ i _. omega (arith, c.type_inv.name i)) in
    ap parse (c.in_ok-text.ensures c.args.value.now c.as_encoded.ensures.text) ∙ parse-append_pair c.self.inside.text.items (c.args.name.now, c.args.value.now) (bytes, c.as_encoded.ensures.bytes)
    ∙ ap (λ x. x ++ (c.args.name.now, c.args.value.now) ∷ []) c.self.view_is
