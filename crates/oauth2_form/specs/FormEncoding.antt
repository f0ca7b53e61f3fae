-- How a form encodes a text (URL Standard, sections 1.3 and 5.2).
use Rattle.std.specs.Prelude.{ℕ, ◌/◌, ◌%◌, ◌==◌, ◌||◌, Bool, List, [], ◌∷◌, ◌++◌, codes, slice_index, if◌then◌else◌}
use Rattle.std.specs.List.{flat_map, list_any}
use Rattle.std.specs.Char.{is_ascii_alphanumeric}

-- the byte is not in the application/x-www-form-urlencoded percent-encode set, which holds all but
-- the ASCII alphanumerics, `*`, `-`, `.` and `_`
abbrev pub is_left_alone : ℕ → Bool
is_left_alone b = is_ascii_alphanumeric b || list_any (λ mark. b == mark) (codes "*-._")

-- the upper-case hexadecimal digit of a number below 16
abbrev pub hex_digit : ℕ → ℕ
hex_digit n = slice_index (codes "0123456789ABCDEF") n

-- the encoding of a byte: `+` for a space, `%` and two digits for a byte of the set, else the byte
abbrev pub form_byte : ℕ → List ℕ
form_byte b =
    if b == 32 then codes "+" else (if is_left_alone b then b ∷ [] else codes "%" ++ hex_digit (b / 16) ∷ hex_digit (b % 16) ∷ [])

-- the encoding of a text
abbrev pub form_text : List ℕ → List ℕ
form_text text = flat_map form_byte text
