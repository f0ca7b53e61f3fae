-- Pairs that were read, as they are held in memory.
use Rattle.std.specs.Prelude.{ℕ, Vec, String, string_bytes}
use Rattle.oauth2_form.specs.Pairs.{Pair}

-- a name and a value that were decoded, as bytes
abbrev pub pair_bytes : {Y Z : Type 0} → Vec ℕ Y × Vec ℕ Z → Pair
pair_bytes p = (p.0.items, p.1.items)

-- a name and a value, as texts
abbrev pub pair_texts : {Y Z : Type 0} → String Y × String Z → Pair
pair_texts p = (string_bytes p.0, string_bytes p.1)
