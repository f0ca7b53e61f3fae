-- Scopes that are separated by commas instead of spaces.
use Rattle.std.specs.Prelude.{ℕ, List, Bool, ◌&&◌, ◌==◌, nat_lt, map, bytes_eq, codes, Option, Some, None, if◌then◌else◌}
use Rattle.std.specs.List.{list_all, list_any}
use Rattle.json.specs.Json.{Json, null, boolean, number, string, array, object}
use Rattle.oauth2_adapters.specs.Rewriting.{Change}

-- the byte, or a space if it is a comma
abbrev pub spaced_byte : ℕ → ℕ
spaced_byte b = if b == 44 then 32 else b

-- the byte is a comma
abbrev pub is_comma : ℕ → Bool
is_comma b = b == 44

-- the byte is ASCII, as all characters of scopes are (RFC 6749, 3.3)
abbrev pub is_ascii : ℕ → Bool
is_ascii b = nat_lt b 128

-- all bytes of the text are ASCII, and at least one is a comma
abbrev pub has_commas : List ℕ → Bool
has_commas text = list_all is_ascii text && list_any is_comma text

-- a string with commas becomes one with a space in place of each comma; any other value does not
-- change
abbrev pub spaced_value : Json → Option Json
spaced_value null = None
spaced_value (boolean b) = None
spaced_value (number s) = None
spaced_value (string s) = if has_commas s then Some (string (map spaced_byte s)) else None
spaced_value (array js) = None
spaced_value (object ms) = None

-- the change of the member `scope`; any other member does not change
abbrev pub spaced_scope : Change
spaced_scope name value = if bytes_eq name (codes "scope") then spaced_value value else None
