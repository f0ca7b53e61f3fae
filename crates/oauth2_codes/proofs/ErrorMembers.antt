-- An error response reads back.
use Rattle.std.proofs.Common.{◌≡◌, ℕ, List, Option, Ok, refl}
use Rattle.serde_json.specs.Data.{Data, string, object, no_members}
use Rattle.oauth2_json.specs.Reading.{Reading}
use Rattle.oauth2_json.specs.Writing.{Writing}
use Rattle.oauth2_json.specs.Puts.{put_all}
use Rattle.oauth2_body_members.proofs.Tables.{read_back}
use Rattle.oauth2_codes.specs.ErrorResponse.{parts_of_error, error_table, error_rows, error_reading, error_writing, IsReadBack}
use Rattle.oauth2_json.proofs.Objects.{optional-text}

error_again : {M : Type 0} (reading : Data → Reading M) (m : M) (s : List ℕ) (d u : Option (List ℕ)) → reading (string s) ≡ Ok m → error_reading reading (object (put_all (error_rows (string s) (parts_of_error m d u)) no_members)) ≡ Ok (parts_of_error m d u)
error_again reading m s d u h =
    read_back (error_table reading) parts_of_error (parts_of_error (string s) d u) (m, (d, (u, tt))) no_members refl refl
    (rw h refl, (optional-text _ d, (optional-text _ u, tt)))

pub error_back : {T M : Type 0} (reading : Data → Reading M) (meaning : T → M) (writing : T → Writing) (t : T) (du uu : Option (List ℕ)) (d : Data)
    → error_writing writing (parts_of_error t du uu) ≡ Ok d → IsReadBack reading meaning writing t → error_reading reading d ≡ Ok (parts_of_error (meaning t) du uu)
error_back reading meaning writing t du uu d w back =
    let is : object (put_all (error_rows (string back.0) (parts_of_error t du uu)) no_members) ≡ d = (let e = rw back.1 at w in cc) in
    rw (← is) (error_again reading (meaning t) back.0 du uu back.2)
