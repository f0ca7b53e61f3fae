use Rattle.std.proofs.Common.{◌≡◌, ◌++◌, ◌∷◌, [], arith, rules}
use Rattle.std.proofs.lemmas.List.Elements.{All-from_get_or}
use Rattle.oauth2_form.specs.Pairs.{IsByte}
use Rattle.oauth2_form.proofs.QueryLaws.{ExtendsForm-plain_name}
use Rattle.oauth2_form.proofs.query.append_plain_name_and_value.Goals as goal

pub returns-clause-ok : goal.returns-clause-ok
returns-clause-ok c =
    let name_bytes = All-from_get_or IsByte c.args.name.now 0 (λ i _. omega (arith, c.type_inv.name i)) in
    let value_bytes = All-from_get_or IsByte c.args.value.now 0 (λ i _. omega (arith, c.type_inv.value i)) in
    let named : c.extend_from_slice.new.self.items ≡ c.append_separator.new.form.items ++ c.args.name.now = search rules in
    let marked : c.push.new.self.items ≡ c.extend_from_slice.new.self.items ++ 61 ∷ [] = search rules in
    ExtendsForm-plain_name c.args.form.now.items c.append_separator.new.form.items c.extend_from_slice.new.self.items c.push.new.self.items c.append_encoded_text.new.out.items
    c.args.name.now c.args.value.now (name_bytes, value_bytes) c.requires c.in_ok-append_separator.ensures.ok named marked c.in_ok-append_encoded_text.ensures.ok
