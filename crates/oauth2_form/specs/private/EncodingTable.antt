-- The table from which a form is encoded.
use Rattle.std.specs.Prelude.{ℕ, ◌==◌, if◌then◌else◌}
use Rattle.oauth2_form.specs.FormEncoding.{is_left_alone}

-- the single byte that encodes a byte, or 0 if the byte is encoded by a three-byte escape
abbrev pub single_byte : ℕ → ℕ
single_byte b = if is_left_alone b then b else (if b == 32 then 43 else 0)
