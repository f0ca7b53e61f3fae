-- Of all the members those of some names, and the others where they are kept too.
use Rattle.std.proofs.Common.{◌≡◌, ℕ, List, Bool, true, false, true≢false, ◌||◌, bytes_eq, Option, Some, None, option_map, Result, Ok, Err, cond, subst, refl, sym, ap, ◌∙◌}
use Rattle.std.proofs.lemmas.Slice.Eq.{bytes_eq-Decides}
use Rattle.serde_json.specs.Data.{Data, Members, no_members, object, put}
use Rattle.serde_json.specs.Find.{get_member}
use Rattle.serde_json.proofs.Views.{get_member-put}
use Rattle.std.specs.Str.{is_utf8}
use Rattle.serde_json.specs.Read.{read}
use Rattle.oauth2_json.specs.Body.{body_reading, value_reading}
use Rattle.oauth2_json.specs.Members.{members_of_object, others}
use Rattle.oauth2_json.specs.Reading.{Reading, ReadsAs, ErrsAs, read_then}
use Rattle.oauth2_json.specs.declared.read.ReadError.{ReadError}
use Rattle.oauth2_json.specs.declared.read.ReadError.TheVariants as errors
use Rattle.oauth2_json.proofs.Objects.{pass_put}
use Rattle.oauth2_body_members.specs.Object.{object_members, has_name, Keeps, KeptAs}
use Rattle.oauth2_body_members.specs.declared.object.Object.{Object}

put_at : (b : Bool) (q k : List ℕ) (d : Data) (kept all : Members) → bytes_eq q k ≡ b → get_member q kept ≡ get_member q all → get_member q (put k d kept) ≡ get_member q (put k d all)
put_at true q k d kept all is h =
    let same : q ≡ k = (bytes_eq-Decides q k).0 is in
    ap (λ n. get_member n (put k d kept)) same ∙ get_member-put k d kept ∙ sym (ap (λ n. get_member n (put k d all)) same ∙ get_member-put k d all)
put_at false q k d kept all is h = pass_put q k d kept is ∙ h ∙ sym (pass_put q k d all is)

-- a member that is kept
pub keeps_put : (names : List (List ℕ)) (b : Bool) (k : List ℕ) (d : Data) (all kept : Members) → Keeps names b all kept → Keeps names b (put k d all) (put k d kept)
keeps_put names b k d all kept h = record { own = λ q there. put_at (bytes_eq q k) q k d kept all refl (h.own q there); rest = λ e. ap (put k d) (h.rest e) }

differs : (c : Bool) (q k : List ℕ) (names : List (List ℕ)) → bytes_eq q k ≡ c → has_name q names ≡ true → has_name k names ≡ false → c ≡ false
differs true q k names is there absent = absurd (true≢false (sym there ∙ ap (λ n. has_name n names) ((bytes_eq-Decides q k).0 is) ∙ absent))
differs false q k names is there absent = refl

neither : (a b : Bool) → a || b ≡ false → (a ≡ false) × (b ≡ false)
neither true b h = absurd (true≢false h)
neither false b h = (refl, h)

-- a member that is not
pub keeps_past : (names : List (List ℕ)) (b : Bool) (k : List ℕ) (d : Data) (all kept : Members) → b || has_name k names ≡ false → Keeps names b all kept → Keeps names b (put k d all) kept
keeps_past names b k d all kept unwanted h =
    let apart = neither b (has_name k names) unwanted in
    record {
      own = λ q there. h.own q there ∙ sym (pass_put q k d all (differs (bytes_eq q k) q k names refl there apart.1));
      rest = λ e. absurd (true≢false (sym e ∙ apart.0));
    }

-- all are kept
pub kept_all : (names : List (List ℕ)) (b : Bool) (result : Result Object ReadError) (r : Reading Members) → ReadsAs object_members result r → KeptAs object_members names b result r
kept_all names b (Ok o) r h = (object_members o, h, record { own = λ q there. refl; rest = λ e. refl })
kept_all names b (Err e) r h = h

pub passed : {A B : Type 0} (o : Option (A × B)) (b : B) → option_map (λ p. p.1) o ≡ Some b → (a : A) × (o ≡ Some (a, b))
passed None b h = absurd (cc)
passed (Some (a, c)) b h = (a, cc)

-- what reads the other members reads the same of those that are kept
pub others_kept : {E : Type 0} (reading : Data → Reading E) (own : List (List ℕ)) (b : Bool) (all kept : Members) → (b ≡ true → kept ≡ all) → (b ≡ false → (x y : Members) → reading (object x) ≡ reading (object y))
    → reading (object (others own kept)) ≡ reading (object (others own all))
others_kept reading own true all kept same any = ap (λ ms. reading (object (others own ms))) (same refl)
others_kept reading own false all kept same any = any refl (others own kept) (others own all)

pub passed_none : {A B : Type 0} (o : Option (A × B)) → option_map (λ p. p.1) o ≡ None → o ≡ None
passed_none None h = refl
passed_none (Some p) h = absurd (cc)

-- none at first
pub keeps_none : (names : List (List ℕ)) (b : Bool) (kept : Members) → kept ≡ no_members → Keeps names b no_members kept
keeps_none names b kept h = record { own = λ q there. ap (get_member q) h; rest = λ e. h }

-- ---- a whole body

object_then : {M : Type 0} (row : Members → Reading M) (o : Option Data) → value_reading (λ d. read_then (members_of_object d) row) o ≡ read_then (value_reading members_of_object o) row
object_then row None = refl
object_then row (Some d) = refl

body_then : {M : Type 0} (b : Bool) (row : Members → Reading M) (o : Option Data)
    → cond b (value_reading (λ d. read_then (members_of_object d) row) o) (value_reading (λ d. read_then (members_of_object d) row) None) ≡ read_then (cond b (value_reading members_of_object o) (value_reading members_of_object None)) row
body_then true row o = object_then row o
body_then false row o = refl

body_object : {M : Type 0} (row : Members → Reading M) (bytes : List ℕ) → body_reading (λ d. read_then (members_of_object d) row) bytes ≡ read_then (body_reading members_of_object bytes) row
body_object row bytes = body_then (is_utf8 bytes) row (read bytes)

-- a body that is an object is read by its rows
pub body_rows : {M : Type 0} (row : Members → Reading M) (bytes : List ℕ) (all : Members) → body_reading members_of_object bytes ≡ Ok all → body_reading (λ d. read_then (members_of_object d) row) bytes ≡ row all
body_rows row bytes all h = body_object row bytes ∙ ap (λ r. read_then r row) h

abbrev moved : {A B : Type 0} → Reading A → Reading B → Reading B
moved (Ok a) r = r
moved (Err e) r = Err e

errs_then : {A B : Type 0} (e : ReadError) (r : Reading A) (f : A → Reading B) → ErrsAs e r → ErrsAs e (read_then r f)
errs_then errors.Memory r f h = tt
errs_then (errors.Fault g) (Ok a) f h = absurd (cc)
errs_then {A = A} {B = B} (errors.Fault g) (Err x) f h = ap (λ r. moved {A = A} {B = B} r (Err x)) h

-- and one that is none is refused
pub body_refused : {M : Type 0} (row : Members → Reading M) (bytes : List ℕ) (e : ReadError) → ErrsAs e (body_reading members_of_object bytes) → ErrsAs e (body_reading (λ d. read_then (members_of_object d) row) bytes)
body_refused row bytes e h = subst (ErrsAs e) (sym (body_object row bytes)) (errs_then e (body_reading members_of_object bytes) row h)
