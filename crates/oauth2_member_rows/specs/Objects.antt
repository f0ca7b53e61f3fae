-- Objects that are read and written by their rows.
use Rattle.std.specs.Prelude.{ℕ, List, Ok}
use Rattle.serde_json.specs.Data.{Data, Members, object}
use Rattle.oauth2_json.specs.Reading.{Reading, read_then, ◌⊛◌}
use Rattle.oauth2_json.specs.Writing.{Writing, write_then}
use Rattle.oauth2_json.specs.Members.{members_of_object, others, beside}
use Rattle.oauth2_json.specs.Puts.{Row, put_all}
use Rattle.oauth2_member_rows.specs.Rows.{joined}

-- an object, whose members are read by `row`
abbrev pub object_reading : {A : Type 0} → (Members → Reading A) → Data → Reading A
object_reading row d = read_then (members_of_object d) row

module _ {A F : Type 0} where
  -- the members, read by `row`, and the members that have none of these names, read as an object
  abbrev pub row_with : List (List ℕ) → (Members → Reading A) → (Data → Reading F) → Members → Reading (A × F)
  row_with names row extra ms = Ok joined ⊛ row ms ⊛ extra (object (others names ms))

  -- an object, read in these two parts
  abbrev pub reading_with : List (List ℕ) → (Members → Reading A) → (Data → Reading F) → Data → Reading (A × F)
  reading_with names row extra d = read_then (members_of_object d) (row_with names row extra)

  -- an object, read in these two parts; a fault of the other members is reported first
  abbrev pub reading_after : List (List ℕ) → (Members → Reading A) → (Data → Reading F) → Data → Reading (F × A)
  reading_after names row extra d = read_then (members_of_object d) (λ ms. Ok joined ⊛ extra (object (others names ms)) ⊛ row ms)

-- a JSON value, read as it is
abbrev pub as_it_is : Data → Reading Data
as_it_is d = Ok d

-- both parts, as contracts see them
abbrev pub both_seen : {V A E F : Type 0} → (V → A) → (E → F) → V × E → A × F
both_seen f g v = (f v.0, g v.1)

-- the rows, next to what the other part is written as, which may have none of these names
abbrev pub writing_with : List (List ℕ) → List Row → Writing → Writing
writing_with names rows extra =
    write_then extra (λ x. write_then (beside names x) (λ ms. Ok (object (put_all rows ms))))
