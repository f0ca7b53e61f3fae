use Rattle.std.proofs.Common.{◌≡◌, Err, sym, ◌∙◌, ap, subst, arith, rules}
use Rattle.std.proofs.lemmas.List.Elements.{All-from_get_or}
use Rattle.oauth2_form.specs.Pairs.{IsByte}
use Rattle.http_header.specs.FieldValue.{plain_value, IsFieldValue}
use Rattle.oauth2_form.specs.Basic.{basic_value}
use Rattle.oauth2_form.proofs.BasicLemmas.{basic-basic_value, basic_value_injective, IsFieldValue-basic_value}
use Rattle.oauth2_form.proofs.basic.basic_header.Goals as goal

pub returns-in-Ok-clause-read_back : goal.returns-in-Ok-clause-read_back
returns-in-Ok-clause-read_back c =
    let v : c.in-Ok.value ≡ plain_value (basic_value c.args.id.now c.args.secret.now) = search rules in
    let id_bytes = All-from_get_or IsByte c.args.id.now 0 (λ i _. omega (arith, c.type_inv.id i)) in
    let secret_bytes = All-from_get_or IsByte c.args.secret.now 0 (λ i _. omega (arith, c.type_inv.secret i)) in
    rw v (basic-basic_value _ _ id_bytes secret_bytes)

pub returns-in-Ok-clause-injective : goal.returns-in-Ok-clause-injective
returns-in-Ok-clause-injective c = λ other_id other_secret b3 b4 same.
    let v : c.in-Ok.value ≡ plain_value (basic_value c.args.id.now c.args.secret.now) = search rules in
    let id_bytes = All-from_get_or IsByte c.args.id.now 0 (λ i _. omega (arith, c.type_inv.id i)) in
    let secret_bytes = All-from_get_or IsByte c.args.secret.now 0 (λ i _. omega (arith, c.type_inv.secret i)) in
    basic_value_injective _ _ other_id other_secret id_bytes secret_bytes b3 b4 (sym (ap (λ x. x.bytes) v) ∙ same)

pub unreachable-requires : goal.unreachable-requires
unreachable-requires c =
    let refused = c.in-Err-Invalid.is ∙ ap (λ e. Err e) c.in-Err-Invalid.field-0-is in
    c.from_string.ensures.invalid.0 refused (subst IsFieldValue (sym c.in_ok-basic_value.ensures) (IsFieldValue-basic_value c.args.id.now c.args.secret.now))
