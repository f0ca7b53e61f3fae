-- What the rows of a table read to, as one tuple.
use Rattle.oauth2_body_members.specs.Table.{Table, end, ◌▸◌, Builder}

-- what the members of a table read to, as one tuple
abbrev pub Meanings : {R : Type 0} → Table R → Type 0
Meanings end = Unit {0}
Meanings (c ▸ t) = c.Meaning × Meanings t

-- a function that takes a table's values one at a time, as a function of the tuple
abbrev pub uncurried : {R X : Type 0} (t : Table R) → Builder t X → Meanings t → X
uncurried end f m = f
uncurried (c ▸ t) f m = uncurried t (f m.0) m.1
