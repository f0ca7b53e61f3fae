-- Extra fields: one member with a known name, and the other fields.
use Rattle.std.specs.Prelude.{ℕ, List, [], ◌∷◌, Option, IfSome, option_map, Ok}
use Rattle.serde_json.specs.Data.{Data, null, boolean, number, string, array, object}
use Rattle.serde_json.specs.Find.{get_member}
use Rattle.oauth2_json.specs.Reading.{Reading, read_then, ◌⊛◌}
use Rattle.oauth2_json.specs.Writing.{Writing, write_then}
use Rattle.oauth2_json.specs.Members.{members_of_object, optional_member, without, put_some, beside}

-- the value of the named member, if it is present, and the other fields
pub record MemberAndRest (T E : Type 0) : Type 0 where
  pub value : Option T
  pub rest : E

-- extra fields with this value and these other fields
abbrev pub member_and_rest : {T E : Type 0} → Option T → E → MemberAndRest T E
member_and_rest value rest = record { value = value; rest = rest }

-- the same fields with `f` applied to the value and `g` to the other fields
abbrev pub with_member_seen : {T E A F : Type 0} → (T → A) → (E → F) → MemberAndRest T E
    → MemberAndRest A F
with_member_seen f g fields = member_and_rest (option_map f fields.value) (g fields.rest)

-- reads the named member of an object, where absent and null are no value, and then the other
-- fields from an object of the other members
abbrev pub with_member_reading : {A F : Type 0} → List ℕ → (Data → Reading A) → (Data → Reading F)
    → Data → Reading (MemberAndRest A F)
with_member_reading name kind rest d = read_then (members_of_object d) (λ ms.
    Ok member_and_rest ⊛ optional_member kind name (get_member name ms) ⊛ rest (object (without name ms)))

-- writes the named member, if it has a value, next to the other fields, which may not have its name
abbrev pub with_member_writing : {T E : Type 0} → List ℕ → (T → Data) → (E → Writing)
    → MemberAndRest T E → Writing
with_member_writing name written rest fields =
    write_then (rest fields.rest) (λ d.
    write_then (beside (name ∷ []) d) (λ ms.
    Ok (object (put_some name (option_map written fields.value) ms))))

-- the JSON value is not null
abbrev pub IsNotNull : Data → Type 0
IsNotNull null = ⊥
IsNotNull (boolean b) = Unit {0}
IsNotNull (number n) = Unit {0}
IsNotNull (string s) = Unit {0}
IsNotNull (array ds) = Unit {0}
IsNotNull (object ms) = Unit {0}

-- the value is absent, or is not written as null, which would read back as absent
abbrev pub IsValueKept : {T : Type 0} → (T → Data) → Option T → Type 0
IsValueKept written value = IfSome value (λ t. IsNotNull (written t))
