-- A named member and the rest read back.
use Rattle.std.proofs.Common.{◌≡◌, ℕ, List, [], ◌∷◌, Option, Some, None, option_map, Ok, refl, sym, ap, ◌∙◌}
use Rattle.serde_json.specs.Data.{Data, null, boolean, number, string, array, object}
use Rattle.oauth2_json.specs.Reading.{Reading}
use Rattle.oauth2_json.specs.Writing.{Writing, write_then}
use Rattle.oauth2_json.specs.Members.{beside, optional_member, put_some}
use Rattle.oauth2_json.proofs.Objects.{absent_first, beside_taken, find_some, without-some}
use Rattle.oauth2_replies.specs.Kept.{AreFieldsKept}
use Rattle.oauth2_extra_fields.specs.Fields.{MemberAndRest, with_member_seen, with_member_reading, with_member_writing, IsNotNull, IsValueKept}

found_again : {A : Type 0} (kind : Data → Reading A) (name : List ℕ) (a : A) (d : Data) → IsNotNull d → kind d ≡ Ok a → optional_member kind name (Some d) ≡ Ok (Some a)
found_again kind name a null h back = absurd h
found_again kind name a (boolean b) h back = rw back refl
found_again kind name a (number n) h back = rw back refl
found_again kind name a (string s) h back = rw back refl
found_again kind name a (array ds) h back = rw back refl
found_again kind name a (object ms) h back = rw back refl

pub value_again : {T A : Type 0} (kind : Data → Reading A) (meaning : T → A) (written : T → Data) (name : List ℕ) (value : Option T)
    → ((t : T) → kind (written t) ≡ Ok (meaning t)) → IsValueKept written value → optional_member kind name (option_map written value) ≡ Ok (option_map meaning value)
value_again kind meaning written name None back h = refl
value_again kind meaning written name (Some t) back h = found_again kind name (meaning t) (written t) h (back t)

-- the members that are written, and what they read back as
pub members_again : {T A E F : Type 0} (name : List ℕ) (kind : Data → Reading A) (meaning : T → A) (written : T → Data) (er : Data → Reading F) (em : E → F) (ew : E → Writing) (fields : MemberAndRest T E) (d : Data)
    → ((t : T) → kind (written t) ≡ Ok (meaning t)) → with_member_writing name written ew fields ≡ Ok d → IsValueKept written fields.value → AreFieldsKept er em ew fields.rest
    → AreFieldsKept (with_member_reading name kind er) (with_member_seen meaning em) (with_member_writing name written ew) fields
members_again name kind meaning written er em ew fields d back h kept rest =
    let o = option_map written fields.value in
    let again : write_then (beside (name ∷ []) (object rest.members)) (λ ms. Ok (object (put_some name o ms))) ≡ Ok d = rw rest.written at h in
    let taken = beside_taken (name ∷ []) rest.members (λ ms. object (put_some name o ms)) d again in
    let absent = (absent_first name [] rest.members taken.0).0 in
    let same : Ok d ≡ Ok (object (put_some name o rest.members)) = ap Ok (sym taken.1) in
    record {
      members = put_some name o rest.members;
      written = h ∙ same;
      back = rw (
        find_some name o rest.members absent,
        without-some name o rest.members absent,
        value_again kind meaning written name fields.value back kept,
        rest.back,
      ) refl;
    }
