-- The members of a type as a table. A column has a member's names, how it is read and written.
use Rattle.std.specs.Prelude.{ℕ, List, [], ◌∷◌, ◌++◌, Option, None}
use Rattle.serde_json.specs.Data.{Data, Members}
use Rattle.serde_json.specs.Find.{get_member}
use Rattle.oauth2_json.specs.Reading.{Reading, ◌⊛◌}
use Rattle.oauth2_json.specs.Puts.{Row}

-- an optional value for each of these names
abbrev pub NamedValues : List (List ℕ) → Type 0
NamedValues [] = Unit {0}
NamedValues (k ∷ ks) = Option Data × NamedValues ks

-- the values of the members with these names
abbrev pub values_under : (ks : List (List ℕ)) → Members → NamedValues ks
values_under [] ms = tt
values_under (k ∷ ks) ms = (get_member k ms, values_under ks ms)

-- a column: the names of a member of `R`, what it reads to, how it is read from the values under
-- these names, and what is written under each
pub record Column (R : Type 0) : Type 1 where
  pub Meaning : Type 0
  pub names : List (List ℕ)
  pub reads : NamedValues names → Reading Meaning
  pub writes : R → NamedValues names

-- a column with one name: `reads` gets the name, to report a fault, and the member's value
abbrev pub column : {R A : Type 0} → List ℕ → (List ℕ → Option Data → Reading A) → (R → Option Data) → Column R
column {A = A} name reads writes =
    record { Meaning = A; names = name ∷ []; reads = λ v. reads name v.0; writes = λ r. (writes r, tt) }

-- a member with a second name, which is read and never written
abbrev pub either_column : {R A : Type 0} → List ℕ → List ℕ → (List ℕ → Option Data → Option Data → Reading A) → (R → Option Data) → Column R
either_column {A = A} name other reads writes =
    record { Meaning = A; names = name ∷ other ∷ []; reads = λ v. reads name v.0 v.1.0; writes = λ r. (writes r, (None, tt)) }

infixr 5 ◌▸◌
-- the columns, from the first member to the last
pub data Table (R : Type 0) : Type 1 where
  end : Table R
  ◌▸◌ : Column R → Table R → Table R

-- all names of the table's columns
abbrev pub names_of : {R : Type 0} → Table R → List (List ℕ)
names_of end = []
names_of (c ▸ t) = c.names ++ names_of t

-- a function that takes what each member reads to, in the order of the columns, and returns an `X`
abbrev pub Builder : {R : Type 0} → Table R → Type 0 → Type 0
Builder end X = X
Builder (c ▸ t) X = c.Meaning → Builder t X

-- applies `f` to what each column reads from the members; if several members are wrong, the first
-- one in the table is reported
abbrev pub table_reading : {R X : Type 0} (t : Table R) → Reading (Builder t X) → Members → Reading X
table_reading end f ms = f
table_reading (c ▸ t) f ms = table_reading t (f ⊛ c.reads (values_under c.names ms)) ms

-- puts these names and their values in front of `rows`
abbrev pub rows_before : (ks : List (List ℕ)) → NamedValues ks → List Row → List Row
rows_before [] vs rows = rows
rows_before (k ∷ ks) vs rows = (k, vs.0) ∷ rows_before ks vs.1 rows

-- what an `R` is written as, in the order of the table: each name with its value; a name without a
-- value is not written
abbrev pub rows_of : {R : Type 0} → Table R → R → List Row
rows_of end r = []
rows_of (c ▸ t) r = rows_before c.names (c.writes r) (rows_of t r)
