-- A named member and the other fields are written as an object.
use Rattle.std.specs.Prelude.{◌≡◌, List, ℕ, [], ◌∷◌, option_map, Result, Ok, Err}
use Rattle.serde_json.specs.Data.{Data, Members, object}
use Rattle.oauth2_json.specs.Members.{beside, put_some}
use Rattle.oauth2_json.specs.Writing.{Writing, WriteRefusal, write_then}
use Rattle.oauth2_extra_fields.specs.Fields.{MemberAndRest, with_member_writing}

-- if the members are written, the result is an object
by_members : (written : Result Members WriteRefusal) (f : Members → Members) (d : Data)
    → write_then written (λ ms. Ok (object (f ms))) ≡ Ok d → (ms : Members) × (d ≡ object ms)
by_members (Ok ms) f d h = (f ms, cc)
by_members (Err e) f d h = cc

-- the same, where `beside` checks the members that the other fields wrote
by_rest : (w : Writing) (name : List ℕ) (f : Members → Members) (d : Data)
    → write_then w (λ x. write_then (beside (name ∷ []) x) (λ ms. Ok (object (f ms)))) ≡ Ok d
    → (ms : Members) × (d ≡ object ms)
by_rest (Ok x) name f d h = by_members (beside (name ∷ []) x) f d h
by_rest (Err e) name f d h = cc

-- what `with_member_writing` writes is an object
pub object_written : {T E : Type 0} (name : List ℕ) (written : T → Data) (rest : E → Writing) (fields : MemberAndRest T E) (d : Data)
    → with_member_writing name written rest fields ≡ Ok d → (ms : Members) × (d ≡ object ms)
object_written name written rest fields d h =
    by_rest (rest fields.rest) name (put_some name (option_map written fields.value)) d h
