-- The values of header fields, by the test that stands in the definition.
use Rattle.std.proofs.Common.{◌≡◌, ℕ, List, Bool, true, false, Ok, refl}
use Rattle.std.proofs.lemmas.List.Sums.{AllPass-from_list_all, list_all-from_AllPass}
use Rattle.std.specs.List.{list_all}
use Rattle.http_header.specs.Token.{is_value_byte}
use Rattle.http_header.specs.FieldValue.{IsFieldValue}
use Rattle.oauth2_script_values.specs.Reading.{bad}
use Rattle.oauth2_script_values.specs.Part.{field_of}
use Rattle.oauth2_script_values.specs.declared.script_cause.ScriptCause.TheVariants.{BadText}

by_test : (text : List ℕ) (b : Bool) → list_all is_value_byte text ≡ b → ¬ (¬ (IsFieldValue text)) → field_of text ≡ Ok text
by_test text true e h = rw e refl
by_test text false e h = absurd (h λ valid. let same : list_all is_value_byte text ≡ true = list_all-from_AllPass is_value_byte text valid in cc)

pub field_of-valid : (text : List ℕ) → ¬ (¬ (IsFieldValue text)) → field_of text ≡ Ok text
field_of-valid text h = by_test text (list_all is_value_byte text) refl h

invalid_by : (text : List ℕ) (b : Bool) → list_all is_value_byte text ≡ b → ¬ (IsFieldValue text) → field_of text ≡ bad BadText
invalid_by text true e h = absurd (h (AllPass-from_list_all is_value_byte text e))
invalid_by text false e h = rw e refl

pub field_of-invalid : (text : List ℕ) → ¬ (IsFieldValue text) → field_of text ≡ bad BadText
field_of-invalid text h = invalid_by text (list_all is_value_byte text) refl h
