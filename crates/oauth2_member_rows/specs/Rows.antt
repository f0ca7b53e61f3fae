-- The rows of a type: one for each member, or for members that hold one value.
use Rattle.std.specs.Prelude.{◌≡◌, ℕ, List, [], ◌∷◌, Bool, true, not, ◌&&◌, Option}
use Rattle.std.specs.Str.{bytes_eq}
use Rattle.serde_json.specs.Data.{Data, Members}
use Rattle.serde_json.specs.Find.{get_member}
use Rattle.oauth2_json.specs.Reading.{Reading}
use Rattle.oauth2_body_members.specs.Table.{Column}

-- none of the names `ks` is `q`
abbrev pub misses : List ℕ → List (List ℕ) → Bool
misses q [] = true
misses q (k ∷ ks) = not (bytes_eq q k) && misses q ks

-- no name occurs twice
abbrev pub are_distinct : List (List ℕ) → Bool
are_distinct [] = true
are_distinct (k ∷ ks) = misses k ks && are_distinct ks

-- under each of these names, both objects have the same value, or none
abbrev pub Agree : List (List ℕ) → Members → Members → Type 0
Agree [] a b = Unit {0}
Agree (k ∷ ks) a b = (get_member k a ≡ get_member k b) × Agree ks a b

-- two values as a pair
abbrev pub joined : {A B : Type 0} → A → B → A × B
joined a b = (a, b)

-- a row of a table for a value that takes two members, both of which are written
abbrev pub pair_column : {R A : Type 0} → List ℕ → List ℕ → (List ℕ → List ℕ → Option Data → Option Data → Reading A) → (R → Option Data) → (R → Option Data) → Column R
pair_column {A = A} name other reads writes writes_other = record {
  Meaning = A;
  names = name ∷ other ∷ [];
  reads = λ v. reads name other v.0 v.1.0;
  writes = λ r. (writes r, (writes_other r, tt));
}
