use Rattle.std.proofs.Common.{◌≡◌, Some, Ok, refl, rules}
use Rattle.std.specs.Prelude.{IsErrOf}
use Rattle.http_header.specs.declared.value.HeaderValueError.TheVariants.{Invalid}
use Rattle.serde_json.specs.View.{view}
use Rattle.serde_json.specs.Find.{as_str}
use Rattle.http_header.specs.FieldValue.{IsFieldValue}
use Rattle.oauth2_script_values.proofs.Fields.{field_of-valid}
use Rattle.oauth2_script_values.proofs.kinds.HeaderValuePart.from_value.Goals as goal

pub returns-clause-read : goal.returns-clause-read
returns-clause-read c =
    let e : as_str (view c.args.value.now) ≡ Some c.as_bytes.result.now = search rules in
    let valid : ¬ (¬ (IsFieldValue c.as_bytes.result.now)) = λ none. let refused : IsErrOf c.from_bytes.result Invalid = c.from_bytes.ensures.invalid.1 none in let was : c.from_bytes.result ≡ Ok c.in_ok-from_bytes.field-0 = c.in_ok-from_bytes.was in cc in
    rw (e, field_of-valid c.as_bytes.result.now valid, c.in_ok-from_bytes.ensures.ok) refl
