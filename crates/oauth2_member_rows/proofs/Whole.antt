-- What is kept of a body reads as all of it.
use Rattle.std.proofs.Common.{◌≡◌, ℕ, List, Bool, false, refl}
use Rattle.serde_json.specs.Data.{Data, Members, object}
use Rattle.oauth2_json.specs.Reading.{Reading}
use Rattle.oauth2_body_members.specs.Object.{Keeps}
use Rattle.oauth2_body_members.proofs.Keeping.{others_kept}
use Rattle.oauth2_member_rows.specs.Rows.{Agree}
use Rattle.oauth2_member_rows.specs.Objects.{row_with}
use Rattle.oauth2_member_rows.proofs.Names.{kept_agree}

-- what is kept of the members of a body reads as all of them
pub kept_with : {A F : Type 0} (ks : List (List ℕ)) (row : Members → Reading A) (extra : Data → Reading F) (b : Bool) (all kept : Members)
    → (Agree ks kept all → row kept ≡ row all) → Keeps ks b all kept → (b ≡ false → (x y : Members) → extra (object x) ≡ extra (object y)) → row_with ks row extra kept ≡ row_with ks row extra all
kept_with ks row extra b all kept depends k any = rw (depends (kept_agree ks kept all k.own), others_kept extra ks b all kept k.rest any) refl
