-- Names in a form that are found without decoding a plus.
use Rattle.std.specs.Prelude.{ℕ, ◌==◌, ◌||◌, Bool, not}

-- the byte is neither a space nor a plus, which stands for one in a form (URL Standard, 5.1)
abbrev pub is_no_space : ℕ → Bool
is_no_space b = not (b == 32 || b == 43)
