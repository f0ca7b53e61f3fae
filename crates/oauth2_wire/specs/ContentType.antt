-- The Content-Type of a reply (RFC 9110, section 8.3).
use Rattle.std.specs.Prelude.{ℕ, ◌/◌, ◌%◌, ◌==◌, ◌&&◌, ◌||◌, Bool, true, nat_lt, nat_le, List, [], ◌∷◌, ◌++◌, map, take, drop, bytes_eq, codes, flat_map, if◌then◌else◌}
use Rattle.std.specs.List.{list_all}
use Rattle.std.specs.Char.{to_ascii_lowercase, digit_char}
use Rattle.oauth2_wire.specs.declared.content_type.ReplyRule.{ReplyRule}
use Rattle.oauth2_wire.specs.declared.content_type.ReplyRule.TheVariants.{Prefix, MediaType}

-- a tab, or a byte from 32 to 126
abbrev pub is_text_byte : ℕ → Bool
is_text_byte b = b == 9 || (nat_le 32 b && nat_le b 126)

-- the value begins with `application/json`, ASCII letters in either case
abbrev pub begins_with_json : List ℕ → Bool
begins_with_json value =
    bytes_eq (map to_ascii_lowercase (take 16 value)) (codes "application/json")

-- the media type ends before these bytes: they are empty, or begin with a semicolon, a space or a
-- tab, after which parameters may follow (RFC 9110, sections 8.3.1 and 5.6.6)
abbrev pub ends_the_type : List ℕ → Bool
ends_the_type [] = true
ends_the_type (b ∷ after) = b == 59 || b == 32 || b == 9

-- the value counts as JSON: `Prefix` tests only how it begins, `MediaType` its whole media type
abbrev pub is_json_type : ReplyRule → List ℕ → Bool
is_json_type Prefix value = list_all is_text_byte value && begins_with_json value
is_json_type MediaType value =
    list_all is_text_byte value && begins_with_json value && ends_the_type (drop 16 value)

-- a byte as the error text shows it: a quotation mark after a backslash, a byte above 126 as `\x`
-- and two hexadecimal digits, and any other byte as it is
abbrev pub shown_byte : ℕ → List ℕ
shown_byte b =
    if b == 34 then codes "\\\"" else (if nat_lt 126 b then codes "\\x" ++ digit_char (b / 16) ∷ digit_char (b % 16) ∷ [] else b ∷ [])

-- the error text for a Content-Type that is not JSON
abbrev pub unexpected_type_text : List ℕ → List ℕ
unexpected_type_text value =
    codes "unexpected response Content-Type: \""
    ++ flat_map shown_byte value
    ++ codes "\", should be `application/json`"
