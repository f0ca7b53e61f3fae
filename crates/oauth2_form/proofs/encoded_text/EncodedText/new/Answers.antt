use Rattle.std.proofs.Common.{◌++◌, ap, ◌∙◌, arith}
use Rattle.std.proofs.lemmas.List.Elements.{All-from_get_or}
use Rattle.oauth2_form.specs.Pairs.{IsByte}
use Rattle.form_urlencoded.specs.Form.{byte_serialize}
use Rattle.oauth2_form.proofs.WrittenLemmas.{IsEncodedText-from_value, decode-encoded}
use Rattle.oauth2_form.proofs.encoded_text.EncodedText.new.Goals as goal

pub invariant_of-result : goal.invariant_of-result
invariant_of-result c =
    let bytes = All-from_get_or IsByte c.args.s.now 0 (λ i _. omega (arith, c.type_inv.s i)) in
    IsEncodedText-from_value c.append_encoded_text.new.out.items c.args.s.now (c.in_ok-append_encoded_text.ensures.ok ∙ ap (λ x. x ++ byte_serialize c.args.s.now) c.new-text.ensures.items) bytes

pub returns : goal.returns
returns c =
    let bytes = All-from_get_or IsByte c.args.s.now 0 (λ i _. omega (arith, c.type_inv.s i)) in
    decode-encoded c.append_encoded_text.new.out.items c.args.s.now (c.in_ok-append_encoded_text.ensures.ok ∙ ap (λ x. x ++ byte_serialize c.args.s.now) c.new-text.ensures.items) bytes
