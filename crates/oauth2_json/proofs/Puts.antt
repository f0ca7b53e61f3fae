-- Members that were put in, one for each row.
use Rattle.std.proofs.Common.{◌≡◌, ℕ, List, [], ◌∷◌, Bool, true, false, not, cond, ◌&&◌, Option, None, bytes_eq, refl, sym, ap, ◌∙◌}
use Rattle.std.proofs.lemmas.Slice.Eq.{bytes_eq-Decides}
use Rattle.serde_json.specs.Data.{Data, Members}
use Rattle.serde_json.specs.Find.{get_member}
use Rattle.oauth2_json.specs.Members.{others, put_some, clashes}
use Rattle.oauth2_json.proofs.Objects.{pass_some, find_some, without-some, absent_first, misses}
use Rattle.oauth2_json.specs.Puts.{Row, put_all, names, value_in}

-- no name twice
abbrev pub are_distinct : List (List ℕ) → Bool
are_distinct [] = true
are_distinct (k ∷ ks) = misses k ks && are_distinct ks

both : (a b : Bool) → a && b ≡ true → (a ≡ true) × (b ≡ true)
both true b h = (refl, h)
both false b h = (h, cc)

turned : (b : Bool) → not b ≡ true → b ≡ false
turned true h = sym h
turned false h = refl

pass_all : (q : List ℕ) (rs : List Row) (ms : Members) → misses q (names rs) ≡ true → get_member q (put_all rs ms) ≡ get_member q ms
pass_all q [] ms h = refl
pass_all q (r ∷ rs) ms h =
    let w = both (not (bytes_eq q r.0)) (misses q (names rs)) h in
    pass_some q r.0 r.1 (put_all rs ms) (turned (bytes_eq q r.0) w.0) ∙ pass_all q rs ms w.1

-- before a row is put in, its name is absent
absent_head : (r : Row) (rs : List Row) (ms : Members) → misses r.0 (names rs) ≡ true → clashes (r.0 ∷ names rs) ms ≡ false → get_member r.0 (put_all rs ms) ≡ None
absent_head r rs ms h free = pass_all r.0 rs ms h ∙ (absent_first r.0 (names rs) ms free).0

found_at : (b : Bool) (q k : List ℕ) (v : Option Data) (ms : Members) (o : Option Data) → bytes_eq q k ≡ b → get_member k ms ≡ None → get_member q ms ≡ o → get_member q (put_some k v ms) ≡ cond b v o
found_at true q k v ms o e free later =
    let same : q ≡ k = (bytes_eq-Decides q k).0 e in
    ap (λ x. get_member x (put_some k v ms)) same ∙ find_some k v ms free
found_at false q k v ms o e free later = pass_some q k v ms e ∙ later

-- under each row's name stands its value
pub found : (q : List ℕ) (rs : List Row) (ms : Members) → are_distinct (names rs) ≡ true → clashes (names rs) ms ≡ false → get_member q (put_all rs ms) ≡ value_in q rs (get_member q ms)
found q [] ms d free = refl
found q (r ∷ rs) ms d free =
    let w = both (misses r.0 (names rs)) (are_distinct (names rs)) d in
    found_at (bytes_eq q r.0) q r.0 r.1 (put_all rs ms) _ refl (absent_head r rs ms w.0 free) (found q rs ms w.1 (absent_first r.0 (names rs) ms free).1)

-- and the other members are those that were there before
pub rest : (rs : List Row) (ms : Members) → are_distinct (names rs) ≡ true → clashes (names rs) ms ≡ false → others (names rs) (put_all rs ms) ≡ ms
rest [] ms d free = refl
rest (r ∷ rs) ms d free =
    let w = both (misses r.0 (names rs)) (are_distinct (names rs)) d in
    ap (others (names rs)) (without-some r.0 r.1 (put_all rs ms) (absent_head r rs ms w.0 free)) ∙ rest rs ms w.1 (absent_first r.0 (names rs) ms free).1
