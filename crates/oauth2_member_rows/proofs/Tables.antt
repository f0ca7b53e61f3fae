-- What a table reads as nested pairs, and what is written by a table, read back.
use Rattle.std.proofs.Common.{◌≡◌, ℕ, List, [], ◌∷◌, ◌++◌, Bool, true, false, Option, Some, None, Ok, Err, refl, ap, sym, ◌∙◌}
use Rattle.std.specs.Str.{is_utf8}
use Rattle.serde_json.specs.Data.{Data, Members, object, no_members}
use Rattle.serde_json.specs.Read.{read}
use Rattle.oauth2_json.specs.Body.{value_reading, body_reading}
use Rattle.oauth2_json.specs.Puts.{put_all, names}
use Rattle.oauth2_json.specs.Writing.{Writing, write_then}
use Rattle.oauth2_json.specs.Reading.{Reading, Fault, ErrsAs, read_then, ◌⊛◌}
use Rattle.oauth2_json.specs.declared.read.ReadError.{ReadError}
use Rattle.oauth2_json.specs.declared.read.ReadError.TheVariants as errors
use Rattle.oauth2_json.specs.Members.{members_of_object, others, clashes, beside}
use Rattle.oauth2_json.proofs.Objects.{beside_taken}
use Rattle.oauth2_json.proofs.Puts.{are_distinct as none_twice, rest as rest_of_all}
use Rattle.oauth2_body_members.specs.Table.{Table, ◌▸◌, end, Builder, names_of, rows_of, table_reading, values_under}
use Rattle.oauth2_body_members.proofs.Tables.{IsReadBack, read_back}
use Rattle.oauth2_body_members.specs.private.Meanings.{Meanings, uncurried}
use Rattle.oauth2_member_rows.specs.Rows.{are_distinct, Agree, joined}
use Rattle.oauth2_member_rows.specs.private.RowLaws.{agree_parts}
use Rattle.oauth2_member_rows.specs.Objects.{as_it_is, object_reading, row_with, reading_with, reading_after, writing_with}
use Rattle.oauth2_member_rows.proofs.Names.{left_agrees}
use Rattle.oauth2_member_rows.proofs.Pairs.{both_parts}

-- what each row reads to, as nested pairs
abbrev pub pairs_reading : {R : Type 0} (t : Table R) → Members → Reading (Meanings t)
pairs_reading end ms = Ok tt
pairs_reading (c ▸ t) ms = Ok joined ⊛ c.reads (values_under c.names ms) ⊛ pairs_reading t ms

-- each row of a table read to its value
abbrev pub AreRead : {R : Type 0} (t : Table R) → Members → Meanings t → Type 0
AreRead end ms m = Unit {0}
AreRead (c ▸ t) ms m = (c.reads (values_under c.names ms) ≡ Ok m.0) × AreRead t ms m.1

pub each_read : {R : Type 0} (t : Table R) (ms : Members) (m : Meanings t) → pairs_reading t ms ≡ Ok m → AreRead t ms m
each_read end ms m h = tt
each_read (c ▸ t) ms m h =
    let p = both_parts (c.reads (values_under c.names ms)) (pairs_reading t ms) m.0 m.1 h in
    (p.0, each_read t ms m.1 p.1)

failed : {R X : Type 0} (t : Table R) (e : Fault) (ms : Members) → table_reading {X = X} t (Err e) ms ≡ Err e
failed end e ms = refl
failed (c ▸ t) e ms = failed t e ms

first : {A M X : Type 0} (g : A → M → X) (a : Reading A) (m : Reading M) → Ok (λ (p : A × M). g p.0 p.1) ⊛ (Ok joined ⊛ a ⊛ m) ≡ Ok g ⊛ a ⊛ m
first g (Err e) m = refl
first g (Ok a) (Err e) = refl
first g (Ok a) (Ok m) = refl

module _ {R X : Type 0} where
  rest : {A : Type 0} (t : Table R) (f : A → Builder t X) (a : Reading A) (ms : Members)
      → ((g : Builder t X) → Ok (uncurried {X = X} t g) ⊛ pairs_reading t ms ≡ table_reading t (Ok g) ms)
      → Ok (λ x. uncurried {X = X} t (f x)) ⊛ a ⊛ pairs_reading t ms ≡ table_reading t (Ok f ⊛ a) ms
  rest t f (Err e) ms later = sym (failed t e ms)
  rest t f (Ok a) ms later = later (f a)

  -- a table that builds an `X` reads as one that builds pairs, of which an `X` is made
  pub built : (t : Table R) (f : Builder t X) (ms : Members) → Ok (uncurried {X = X} t f) ⊛ pairs_reading t ms ≡ table_reading t (Ok f) ms
  built end f ms = refl
  built (c ▸ t) f ms =
      let a = c.reads (values_under c.names ms) in
      first (λ x. uncurried {X = X} t (f x)) a (pairs_reading t ms) ∙ rest t f a ms (λ g. built t g ms)

-- ---- a reading of which a value is made

module _ {A X : Type 0} (p : A → X) where
  pub made_of : (r : Reading A) (s : Reading X) → Ok p ⊛ r ≡ s → (a : A) → r ≡ Ok a → s ≡ Ok (p a)
  made_of r s is a h = sym is ∙ ap (λ x. Ok p ⊛ x) h

  pub made_errs : (r : Reading A) (s : Reading X) → Ok p ⊛ r ≡ s → (e : ReadError) → ErrsAs e r → ErrsAs e s
  made_errs r s is errors.Memory h = tt
  made_errs r s is (errors.Fault fault) h = sym is ∙ ap (λ x. Ok p ⊛ x) h

  pub made_then : (row : Members → Reading A) (all : Members → Reading X) → ((ms : Members) → Ok p ⊛ row ms ≡ all ms) → (r : Reading Members) → Ok p ⊛ read_then r row ≡ read_then r all
  made_then row all each (Err e) = refl
  made_then row all each (Ok ms) = each ms

  made_value : (f : Data → Reading A) (g : Data → Reading X) → ((d : Data) → Ok p ⊛ f d ≡ g d) → (o : Option Data) → Ok p ⊛ value_reading f o ≡ value_reading g o
  made_value f g each None = refl
  made_value f g each (Some d) = each d

  made_text : (f : Data → Reading A) (g : Data → Reading X) → ((d : Data) → Ok p ⊛ f d ≡ g d) → (bytes : List ℕ) (b : Bool) → is_utf8 bytes ≡ b → Ok p ⊛ body_reading f bytes ≡ body_reading g bytes
  made_text f g each bytes true is = rw is (made_value f g each (read bytes))
  made_text f g each bytes false is = rw is refl

  pub made_body : (f : Data → Reading A) (g : Data → Reading X) → ((d : Data) → Ok p ⊛ f d ≡ g d) → (bytes : List ℕ) → Ok p ⊛ body_reading f bytes ≡ body_reading g bytes
  made_body f g each bytes = made_text f g each bytes (is_utf8 bytes) refl

-- ---- a whole object

module _ {R : Type 0} (X : Type 0) (t : Table R) (f : Builder t X) where
  object_made : (d : Data) → Ok (uncurried {X = X} t f) ⊛ object_reading (pairs_reading t) d ≡ object_reading (table_reading t (Ok f)) d
  object_made d = made_then (uncurried {X = X} t f) (pairs_reading t) (table_reading t (Ok f)) (built t f) (members_of_object d)

  -- what an object reads to
  pub object_built : (d : Data) (m : Meanings t) → object_reading (pairs_reading t) d ≡ Ok m → object_reading (table_reading t (Ok f)) d ≡ Ok (uncurried {X = X} t f m)
  object_built d m h = made_of (uncurried {X = X} t f) _ _ (object_made d) m h

  -- and its fault
  pub object_errs : (d : Data) (e : ReadError) → ErrsAs e (object_reading (pairs_reading t) d) → ErrsAs e (object_reading (table_reading t (Ok f)) d)
  object_errs d e h = made_errs (uncurried {X = X} t f) _ _ (object_made d) e h

  object_body_made : (bytes : List ℕ) → Ok (uncurried {X = X} t f) ⊛ body_reading (object_reading (pairs_reading t)) bytes ≡ body_reading (object_reading (table_reading t (Ok f))) bytes
  object_body_made bytes = made_body (uncurried {X = X} t f) (object_reading (pairs_reading t)) (object_reading (table_reading t (Ok f))) object_made bytes

  -- what a body reads to
  pub object_body_built : (bytes : List ℕ) (m : Meanings t) → body_reading (object_reading (pairs_reading t)) bytes ≡ Ok m → body_reading (object_reading (table_reading t (Ok f))) bytes ≡ Ok (uncurried {X = X} t f m)
  object_body_built bytes m h = made_of (uncurried {X = X} t f) _ _ (object_body_made bytes) m h

  -- and its fault
  pub object_body_errs : (bytes : List ℕ) (e : ReadError) → ErrsAs e (body_reading (object_reading (pairs_reading t)) bytes) → ErrsAs e (body_reading (object_reading (table_reading t (Ok f))) bytes)
  object_body_errs bytes e h = made_errs (uncurried {X = X} t f) _ _ (object_body_made bytes) e h

-- ---- a whole object, whose other members are read as an `F`

module _ {R F : Type 0} (X : Type 0) (t : Table R) (f : Builder t (F → X)) (extra : Data → Reading F) where
  abbrev table_with : Members → Reading X
  table_with ms = table_reading t (Ok f) ms ⊛ extra (object (others (names_of t) ms))

  abbrev whole_of : Meanings t × F → X
  whole_of v = uncurried {X = F → X} t f v.0 v.1

  rows_made : (ms : Members) → Ok whole_of ⊛ row_with (names_of t) (pairs_reading t) extra ms ≡ table_with ms
  rows_made ms =
      let x = extra (object (others (names_of t) ms)) in
      first (uncurried {X = F → X} t f) (pairs_reading t ms) x ∙ ap (λ r. r ⊛ x) (built t f ms)

  with_made : (d : Data) → Ok whole_of ⊛ reading_with (names_of t) (pairs_reading t) extra d ≡ object_reading table_with d
  with_made d = made_then whole_of (row_with (names_of t) (pairs_reading t) extra) table_with rows_made (members_of_object d)

  -- what an object reads to
  pub with_built : (d : Data) (v : Meanings t × F) → reading_with (names_of t) (pairs_reading t) extra d ≡ Ok v → object_reading table_with d ≡ Ok (whole_of v)
  with_built d v h = made_of whole_of _ _ (with_made d) v h

  -- and its fault
  pub with_errs : (d : Data) (e : ReadError) → ErrsAs e (reading_with (names_of t) (pairs_reading t) extra d) → ErrsAs e (object_reading table_with d)
  with_errs d e h = made_errs whole_of _ _ (with_made d) e h

  with_body_made : (bytes : List ℕ) → Ok whole_of ⊛ body_reading (reading_with (names_of t) (pairs_reading t) extra) bytes ≡ body_reading (object_reading table_with) bytes
  with_body_made bytes = made_body whole_of (reading_with (names_of t) (pairs_reading t) extra) (object_reading table_with) with_made bytes

  -- what a body reads to
  pub body_built : (bytes : List ℕ) (v : Meanings t × F) → body_reading (reading_with (names_of t) (pairs_reading t) extra) bytes ≡ Ok v → body_reading (object_reading table_with) bytes ≡ Ok (whole_of v)
  body_built bytes v h = made_of whole_of _ _ (with_body_made bytes) v h

  -- and its fault
  pub body_errs : (bytes : List ℕ) (e : ReadError) → ErrsAs e (body_reading (reading_with (names_of t) (pairs_reading t) extra) bytes) → ErrsAs e (body_reading (object_reading table_with) bytes)
  body_errs bytes e h = made_errs whole_of _ _ (with_body_made bytes) e h

-- ---- a table whose function is itself read

module _ {R : Type 0} (X : Type 0) (t : Table R) where
  -- it reads as the function and then the pairs
  pub built_from : (f : Reading (Builder t X)) (ms : Members) → Ok (uncurried {X = X} t) ⊛ f ⊛ pairs_reading t ms ≡ table_reading t f ms
  built_from (Err e) ms = sym (failed t e ms)
  built_from (Ok f) ms = built t f ms

values_agree : (ks : List (List ℕ)) (a b : Members) → Agree ks a b → values_under ks a ≡ values_under ks b
values_agree [] a b h = refl
values_agree (k ∷ ks) a b h = λ i. (h.0 i, values_agree ks a b h.1 i)

-- it depends on the members of its names only
pub table_depends : {R X : Type 0} (t : Table R) (f : Reading (Builder t X)) (a b : Members) → Agree (names_of t) a b → table_reading t f a ≡ table_reading t f b
table_depends end f a b h = refl
table_depends (c ▸ t) f a b h =
    let p = agree_parts c.names (names_of t) a b h in
    ap (λ v. table_reading t (f ⊛ c.reads v) a) (values_agree c.names a b p.0) ∙ table_depends t (f ⊛ c.reads (values_under c.names b)) a b p.1

-- ---- a table after another one, whose rows have other names

module _ {S R F : Type 0} (X : Type 0) (s : Table S) (make : Builder s F) (t : Table R) (f : F → Builder t X) (apart : are_distinct (names_of t ++ names_of s) ≡ true) where
  abbrev whole : F × Meanings t → X
  whole v = uncurried {X = X} t (f v.0) v.1

  abbrev both : Members → Reading X
  both ms = table_reading t (Ok f ⊛ table_reading s (Ok make) ms) ms

  abbrev own : Data → Reading F
  own d = object_reading (table_reading s (Ok make)) d

  both_rows : (ms : Members) → Ok whole ⊛ (Ok joined ⊛ own (object (others (names_of t) ms)) ⊛ pairs_reading t ms) ≡ both ms
  both_rows ms =
      let m = pairs_reading t ms in
      let a = table_reading s (Ok make) ms in
      ap (λ x. Ok whole ⊛ (Ok joined ⊛ x ⊛ m)) (table_depends s (Ok make) (others (names_of t) ms) ms (left_agrees (names_of t) (names_of s) ms apart))
      ∙ first (λ x. uncurried {X = X} t (f x)) a m
      ∙ rest t f a ms (λ g. built t g ms)

  both_made : (d : Data) → Ok whole ⊛ reading_after (names_of t) (pairs_reading t) own d ≡ object_reading both d
  both_made d = made_then whole (λ ms. Ok joined ⊛ own (object (others (names_of t) ms)) ⊛ pairs_reading t ms) both both_rows (members_of_object d)

  -- what an object reads to
  pub after_built : (d : Data) (v : F × Meanings t) → reading_after (names_of t) (pairs_reading t) own d ≡ Ok v → object_reading both d ≡ Ok (uncurried {X = X} t (f v.0) v.1)
  after_built d v h = made_of whole _ _ (both_made d) v h

  -- and its fault
  pub after_errs : (d : Data) (e : ReadError) → ErrsAs e (reading_after (names_of t) (pairs_reading t) own d) → ErrsAs e (object_reading both d)
  after_errs d e h = made_errs whole _ _ (both_made d) e h

-- ---- a table next to the members that have no row in it

module _ {R : Type 0} (X : Type 0) (t : Table R) (f : Builder t (Members → X)) where
  abbrev with_rest : Members → Reading X
  with_rest ms = table_reading t (Ok f) ms ⊛ Ok (others (names_of t) ms)

  -- what was read, and the object of the other members
  pub record Beside (d : Data) (m : Meanings t) (o : Data) : Type 0 where
    pub members : Members
    pub is : o ≡ object members
    pub reads : object_reading with_rest d ≡ Ok (uncurried {X = Members → X} t f m members)

  rest_of : (r : Reading (Meanings t)) (m : Meanings t) (ms : Members) (o : Data) → Ok joined ⊛ r ⊛ Ok (object ms) ≡ Ok (m, o) → (r ≡ Ok m) × (object ms ≡ o)
  rest_of r m ms o h =
      let parts = both_parts r (Ok (object ms)) m o h in
      (parts.0, cc parts.1)

  rest_errs : (r : Reading (Meanings t)) (e : ReadError) (ms : Members) → ErrsAs e (Ok joined ⊛ r ⊛ Ok (object ms)) → ErrsAs e (Ok (uncurried {X = Members → X} t f) ⊛ r ⊛ Ok ms)
  rest_errs r errors.Memory ms h = tt
  rest_errs (Err fault) (errors.Fault told) ms h = cc h
  rest_errs (Ok a) (errors.Fault told) ms h = cc h

  beside_rows : (d : Data) (ms : Members) (m : Meanings t) (o : Data) → members_of_object d ≡ Ok ms → row_with (names_of t) (pairs_reading t) as_it_is ms ≡ Ok (m, o) → Beside d m o
  beside_rows d ms m o is h =
      let p = rest_of (pairs_reading t ms) m (others (names_of t) ms) o h in
      let read : table_reading t (Ok f) ms ≡ Ok (uncurried {X = Members → X} t f m) = sym (built t f ms) ∙ ap (λ r. Ok (uncurried {X = Members → X} t f) ⊛ r) p.0 in
      record { members = others (names_of t) ms; is = sym p.1; reads = rw (is, read) refl }

  beside_of : (d : Data) (r : Reading Members) (m : Meanings t) (o : Data) → members_of_object d ≡ r → read_then r (row_with (names_of t) (pairs_reading t) as_it_is) ≡ Ok (m, o) → Beside d m o
  beside_of d (Err e) m o is h = cc h
  beside_of d (Ok ms) m o is h = beside_rows d ms m o is h

  -- what an object reads to
  pub beside_built : (d : Data) (m : Meanings t) (o : Data) → reading_with (names_of t) (pairs_reading t) as_it_is d ≡ Ok (m, o) → Beside d m o
  beside_built d m o h = beside_of d (members_of_object d) m o refl h

  fault_of_rows : (e : ReadError) (ms : Members) → ErrsAs e (row_with (names_of t) (pairs_reading t) as_it_is ms) → ErrsAs e (with_rest ms)
  fault_of_rows e ms h = rw (← built t f ms) (rest_errs (pairs_reading t ms) e (others (names_of t) ms) h)

  fault_of_all : (e : ReadError) (r : Reading Members) → ErrsAs e (read_then r (row_with (names_of t) (pairs_reading t) as_it_is)) → ErrsAs e (read_then r with_rest)
  fault_of_all errors.Memory (Err fault) h = tt
  fault_of_all (errors.Fault told) (Err fault) h = cc h
  fault_of_all e (Ok ms) h = fault_of_rows e ms h

  -- and its fault
  pub beside_errs : (d : Data) (e : ReadError) → ErrsAs e (reading_with (names_of t) (pairs_reading t) as_it_is d) → ErrsAs e (object_reading with_rest d)
  beside_errs d e h = fault_of_all e (members_of_object d) h

-- ---- what is written by a table reads back

no_clash : (ks : List (List ℕ)) → clashes ks no_members ≡ false
no_clash [] = refl
no_clash (k ∷ ks) = no_clash ks

module _ {R : Type 0} (t : Table R) (r : R) (m : Meanings t) (apart : none_twice (names (rows_of t r)) ≡ true) (back : IsReadBack t r m) where
  pub object_read_back : (X : Type 0) (f : Builder t X) → object_reading (table_reading t (Ok f)) (object (put_all (rows_of t r) no_members)) ≡ Ok (uncurried {X = X} t f m)
  object_read_back X f = read_back t f r m no_members apart (no_clash (names (rows_of t r))) back

  module _ (same : names (rows_of t r) ≡ names_of t) (w : Writing) (x : Members) (d : Data) (is : w ≡ Ok (object x)) (written : writing_with (names_of t) (rows_of t r) w ≡ Ok d) where
    -- the rows stand next to the members of the other part, which are left without them
    record StandsBeside : Type 0 where
      free : clashes (names (rows_of t r)) x ≡ false
      is_all : object (put_all (rows_of t r) x) ≡ d
      left : others (names_of t) (put_all (rows_of t r) x) ≡ x

    stands_beside : StandsBeside
    stands_beside =
        let put : write_then (beside (names_of t) (object x)) (λ ms. Ok (object (put_all (rows_of t r) ms))) ≡ Ok d = rw is at written in
        let taken = beside_taken (names_of t) x (λ ms. object (put_all (rows_of t r) ms)) d put in
        let free : clashes (names (rows_of t r)) x ≡ false = ap (λ own. clashes own x) same ∙ taken.0 in
        record { free = free; is_all = taken.1; left = ap (λ own. others own (put_all (rows_of t r) x)) (sym same) ∙ rest_of_all (rows_of t r) x apart free }

    pub with_read_back : {F : Type 0} (X : Type 0) (f : Builder t (F → X)) (extra : Data → Reading F) (y : F) → extra (object x) ≡ Ok y
        → object_reading (λ ms. table_reading t (Ok f) ms ⊛ extra (object (others (names_of t) ms))) d ≡ Ok (uncurried {X = F → X} t f m y)
    with_read_back X f extra y again =
        let it = stands_beside in
        rw (← it.is_all) (rw (read_back t f r m x apart it.free back, it.left, again) refl)

    -- the same, where the other part is read by a table too
    pub after_read_back : {S F : Type 0} (X : Type 0) (s : Table S) (make : Builder s F) (f : F → Builder t X) (y : F) → are_distinct (names_of t ++ names_of s) ≡ true → table_reading s (Ok make) x ≡ Ok y
        → object_reading (λ ms. table_reading t (Ok f ⊛ table_reading s (Ok make) ms) ms) d ≡ Ok (uncurried {X = X} t (f y) m)
    after_read_back X s make f y others_apart again =
        let it = stands_beside in
        let all = put_all (rows_of t r) x in
        let first_part : table_reading s (Ok make) all ≡ Ok y =
        sym (table_depends s (Ok make) (others (names_of t) all) all (left_agrees (names_of t) (names_of s) all others_apart))
        ∙ ap (table_reading s (Ok make)) it.left ∙ again in
        rw (← it.is_all) (ap (λ a. table_reading t (Ok f ⊛ a) all) first_part ∙ read_back t (f y) r m x apart it.free back)
