-- The length of a text as a `usize`.
use Rattle.std.specs.Prelude.{ℕ, ◌-◌, ◌^◌, List, length, min}

-- the length of the text in bytes, or 2^64 - 1, the greatest `usize`, if it is longer
abbrev pub usize_len : List ℕ → ℕ
usize_len text = min (length text) (2 ^ 64 - 1)
