-- The rules that all JSON Web Tokens share are met exactly where it is as the standards say.
use Rattle.std.proofs.Common.{◌≡◌, ◌⊎◌, ℤ, int_le, List, ℕ, map, Bool, true, false, true≢false, ◌||◌, Option, Some, None, bytes_eq, codes, refl, sym}
use Rattle.std.specs.Char.{to_ascii_lowercase}
use Rattle.std.specs.Prelude.{IsSomeAnd, ◌≤ℤ◌}
use Rattle.std.specs.Result.{result_ok}
use Rattle.serde_json.specs.Data.{Data, null, boolean, number, string, array, object}
use Rattle.serde_json.specs.Find.{as_str}
use Rattle.oauth2_openid.proofs.CheckLaws.{tested, untested, which, is_one, one_is}
use Rattle.oauth2_openid.specs.Kinds.{names_plain, is_plain, takes_plain, is_true, is_encoded, is_by, has_started, IsPlainType, NamesNoOther, IsEncoded, HasStarted}
use Rattle.oauth2_openid.specs.Times.{time}

-- ---- the type

pub plain_held : (typ : List ℕ) → names_plain typ ≡ true → IsPlainType typ
plain_held typ h =
    let x = map to_ascii_lowercase typ in
    is_one x (codes "jwt") (codes "application/jwt") (which (bytes_eq x (codes "jwt")) (bytes_eq x (codes "application/jwt")) h)

pub held_plain : (typ : List ℕ) → IsPlainType typ → names_plain typ ≡ true
held_plain typ h = one_is (map to_ascii_lowercase typ) (codes "jwt") (codes "application/jwt") h

string_held : (o : Option (List ℕ)) → is_plain o ≡ true → IsSomeAnd o IsPlainType
string_held None h = absurd (true≢false (sym h))
string_held (Some typ) h = plain_held typ h

held_string : (o : Option (List ℕ)) → IsSomeAnd o IsPlainType → is_plain o ≡ true
held_string None h = absurd h
held_string (Some typ) h = held_plain typ h

pub type_held : (o : Option Data) → takes_plain o ≡ true → NamesNoOther o
type_held None h = tt
type_held (Some d) h = string_held (as_str d) h

pub held_type : (o : Option Data) → NamesNoOther o → takes_plain o ≡ true
held_type None h = refl
held_type (Some d) h = held_string (as_str d) h

-- ---- the payload

true_held : (d : Data) → is_true d ≡ true → d ≡ boolean true
true_held null h = absurd (true≢false (sym h))
true_held (boolean b) h = rw h refl
true_held (number n) h = absurd (true≢false (sym h))
true_held (string s) h = absurd (true≢false (sym h))
true_held (array ds) h = absurd (true≢false (sym h))
true_held (object ms) h = absurd (true≢false (sym h))

pub encoded_held : (o : Option Data) → is_encoded o ≡ true → IsEncoded o
encoded_held None h = tt
encoded_held (Some d) h = true_held d h

pub held_encoded : (o : Option Data) → IsEncoded o → is_encoded o ≡ true
held_encoded None h = refl
held_encoded (Some d) h = rw h refl

-- ---- the start

by_held : (latest : ℤ) (o : Option ℤ) → is_by latest o ≡ true → IsSomeAnd o (λ start. start ≤ℤ latest)
by_held latest None h = absurd (true≢false (sym h))
by_held latest (Some start) h = record { le = tested (int_le start latest) h }

held_by : (latest : ℤ) (o : Option ℤ) → IsSomeAnd o (λ start. start ≤ℤ latest) → is_by latest o ≡ true
held_by latest None h = absurd h
held_by latest (Some start) h = untested (int_le start latest) h.le

pub started_held : (latest : ℤ) (o : Option Data) → has_started latest o ≡ true → HasStarted latest o
started_held latest None h = tt
started_held latest (Some null) h = tt
started_held latest (Some (boolean b)) h = by_held latest (result_ok (time (boolean b))) h
started_held latest (Some (number n)) h = by_held latest (result_ok (time (number n))) h
started_held latest (Some (string s)) h = by_held latest (result_ok (time (string s))) h
started_held latest (Some (array ds)) h = by_held latest (result_ok (time (array ds))) h
started_held latest (Some (object ms)) h = by_held latest (result_ok (time (object ms))) h

pub held_started : (latest : ℤ) (o : Option Data) → HasStarted latest o → has_started latest o ≡ true
held_started latest None h = refl
held_started latest (Some null) h = refl
held_started latest (Some (boolean b)) h = held_by latest (result_ok (time (boolean b))) h
held_started latest (Some (number n)) h = held_by latest (result_ok (time (number n))) h
held_started latest (Some (string s)) h = held_by latest (result_ok (time (string s))) h
held_started latest (Some (array ds)) h = held_by latest (result_ok (time (array ds))) h
held_started latest (Some (object ms)) h = held_by latest (result_ok (time (object ms))) h
