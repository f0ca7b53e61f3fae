-- What a table reads of members that it wrote.
use Rattle.std.proofs.Common.{◌≡◌, ℕ, List, [], ◌∷◌, ◌++◌, Bool, true, false, not, ◌&&◌, bytes_eq, Option, Ok, refl, sym, ap, ◌∙◌}
use Rattle.std.proofs.lemmas.Slice.Eq.{bytes_eq-Decides}
use Rattle.serde_json.specs.Data.{Data, Members}
use Rattle.serde_json.specs.Find.{get_member}
use Rattle.oauth2_json.specs.Reading.{◌⊛◌}
use Rattle.oauth2_json.specs.Members.{put_some, clashes}
use Rattle.oauth2_json.specs.Puts.{Row, put_all, names}
use Rattle.oauth2_json.proofs.Objects.{absent_first, misses, pass_some, find_some}
use Rattle.oauth2_json.proofs.Puts.{are_distinct}
use Rattle.oauth2_body_members.specs.Table.{NamedValues, values_under, rows_before, Table, ◌▸◌, end, Builder, rows_of, table_reading}
use Rattle.oauth2_body_members.specs.private.Meanings.{Meanings, uncurried}

both : (a b : Bool) → a && b ≡ true → (a ≡ true) × (b ≡ true)
both true b h = (refl, h)
both false b h = (h, cc)

turned : (b : Bool) → not b ≡ true → b ≡ false
turned true h = sym h
turned false h = refl

flipped_at : (b : Bool) (q k : List ℕ) → bytes_eq q k ≡ b → bytes_eq k q ≡ false → b ≡ false
flipped_at true q k is h = sym ((bytes_eq-Decides k q).1 (sym ((bytes_eq-Decides q k).0 is))) ∙ h
flipped_at false q k is h = refl

-- ---- what was written reads back

-- what is written of r reads to these values
abbrev pub IsReadBack : {R : Type 0} (t : Table R) → R → Meanings t → Type 0
IsReadBack end r m = Unit {0}
IsReadBack (c ▸ t) r m = (c.reads (c.writes r) ≡ Ok m.0) × IsReadBack t r m.1

-- under each name stands its row's value
abbrev pub Holds : List Row → Members → Type 0
Holds [] ms = Unit {0}
Holds (r ∷ rs) ms = (get_member r.0 ms ≡ r.1) × Holds rs ms

absent : (q : List ℕ) (rs : List Row) (ms : Members) → misses q (names rs) ≡ true → get_member q (put_all rs ms) ≡ get_member q ms
absent q [] ms h = refl
absent q (r ∷ rs) ms h =
    let w = both (not (bytes_eq q r.0)) (misses q (names rs)) h in
    pass_some q r.0 r.1 (put_all rs ms) (turned (bytes_eq q r.0) w.0) ∙ absent q rs ms w.1

holds_past : (rs : List Row) (k : List ℕ) (o : Option Data) (ms : Members) → misses k (names rs) ≡ true → Holds rs ms → Holds rs (put_some k o ms)
holds_past [] k o ms h held = tt
holds_past (r ∷ rs) k o ms h held =
    let w = both (not (bytes_eq k r.0)) (misses k (names rs)) h in
    (pass_some r.0 k o ms (flipped_at (bytes_eq r.0 k) r.0 k refl (turned (bytes_eq k r.0) w.0)) ∙ held.0, holds_past rs k o ms w.1 held.1)

pub all_held : (rs : List Row) (ms : Members) → are_distinct (names rs) ≡ true → clashes (names rs) ms ≡ false → Holds rs (put_all rs ms)
all_held [] ms h free = tt
all_held (r ∷ rs) ms h free =
    let w = both (misses r.0 (names rs)) (are_distinct (names rs)) h in
    let a = absent_first r.0 (names rs) ms free in
    let below = put_all rs ms in
    (find_some r.0 r.1 below (absent r.0 rs ms w.0 ∙ a.0), holds_past rs r.0 r.1 below w.0 (all_held rs ms w.1 a.1))

pub held_parts : (rs more : List Row) (ms : Members) → Holds (rs ++ more) ms → Holds rs ms × Holds more ms
held_parts [] more ms held = (tt, held)
held_parts (r ∷ rs) more ms held =
    let p = held_parts rs more ms held.1 in
    ((held.0, p.0), p.1)

values_held : (ks : List (List ℕ)) (vs : NamedValues ks) (rs : List Row) (ms : Members) → Holds (rows_before ks vs rs) ms → (values_under ks ms ≡ vs) × Holds rs ms
values_held [] vs rs ms held = (refl, held)
values_held (k ∷ ks) vs rs ms held =
    let p = values_held ks vs.1 rs ms held.1 in
    (λ i. (held.0 i, p.0 i), p.1)

pub read_held : {R X : Type 0} (t : Table R) (f : Builder t X) (r : R) (m : Meanings t) (ms : Members) → Holds (rows_of t r) ms → IsReadBack t r m → table_reading t (Ok f) ms ≡ Ok (uncurried t f m)
read_held end f r m ms held back = refl
read_held (c ▸ t) f r m ms held back =
    let p = values_held c.names (c.writes r) (rows_of t r) ms held in
    ap (λ v. table_reading t (Ok f ⊛ c.reads v) ms) p.0
    ∙ ap (λ x. table_reading t (Ok f ⊛ x) ms) back.0
    ∙ read_held t (f m.0) r m.1 ms p.1 back.1

pub read_back : {R X : Type 0} (t : Table R) (f : Builder t X) (r : R) (m : Meanings t) (ms : Members) → are_distinct (names (rows_of t r)) ≡ true → clashes (names (rows_of t r)) ms ≡ false → IsReadBack t r m
    → table_reading t (Ok f) (put_all (rows_of t r) ms) ≡ Ok (uncurried t f m)
read_back t f r m ms h free back = read_held t f r m (put_all (rows_of t r) ms) (all_held (rows_of t r) ms h free) back
