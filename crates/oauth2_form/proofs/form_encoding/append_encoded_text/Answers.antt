use Rattle.std.proofs.Common.{◌≡◌, ◌++◌, ap, sym, ◌∙◌, arith, rules}
use Rattle.std.proofs.lemmas.List.Elements.{All-from_get_or}
use Rattle.form_urlencoded.specs.Form.{byte_serialize}
use Rattle.oauth2_form.specs.Pairs.{IsByte}
use Rattle.oauth2_form.proofs.FormEncodingLemmas.{form_text-byte_serialize}
use Rattle.oauth2_form.proofs.form_encoding.append_encoded_text.Goals as goal

pub returns-clause-standard : goal.returns-clause-standard
returns-clause-standard c =
    let bytes = All-from_get_or IsByte c.args.text.now 0 (λ i _. omega (arith, c.type_inv.text i)) in
    let written : c.append_encoded_bytes.new.out.items ≡ c.args.out.now.items ++ byte_serialize c.args.text.now = search rules in
    written ∙ ap (λ x. c.args.out.now.items ++ x) (sym (form_text-byte_serialize c.args.text.now bytes))
