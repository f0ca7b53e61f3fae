-- Absolute URIs (RFC 3986, section 4.3): a scheme, a colon, and what may follow it.
use Rattle.std.specs.Prelude.{ℕ, ◌==◌, ◌&&◌, ◌||◌, not, Bool, true, false, List, [], ◌∷◌, nat_lt, length, codes}
use Rattle.std.specs.List.{list_all, list_any, position_or_len, before_first, after_first}
use Rattle.std.specs.Char.{is_ascii_alphabetic, is_ascii_alphanumeric, is_ascii_hexdigit}

-- the byte is a colon
abbrev pub is_colon : ℕ → Bool
is_colon b = b == 58

-- a letter, a digit, a plus sign, a hyphen or a period (RFC 3986, section 3.1)
abbrev pub is_scheme_byte : ℕ → Bool
is_scheme_byte b = is_ascii_alphanumeric b || b == 43 || b == 45 || b == 46

-- the text begins with a letter
abbrev pub begins_with_letter : List ℕ → Bool
begins_with_letter [] = false
begins_with_letter (b ∷ after) = is_ascii_alphabetic b

-- a scheme: a letter, and then letters, digits, `+`, `-` and `.` (RFC 3986, section 3.1)
abbrev pub is_scheme : List ℕ → Bool
is_scheme text = begins_with_letter text && list_all is_scheme_byte text

-- the characters of a URI (RFC 3986, section 2), except the number sign, which begins a fragment
abbrev pub is_uri_byte : ℕ → Bool
is_uri_byte b =
    is_ascii_alphanumeric b || list_any (λ mark. mark == b) (codes "-._~:/?[]@!$&'()*+,;=%")

-- two hexadecimal digits are next
abbrev pub begins_with_digits : List ℕ → Bool
begins_with_digits [] = false
begins_with_digits (a ∷ []) = false
begins_with_digits (a ∷ b ∷ after) = is_ascii_hexdigit a && is_ascii_hexdigit b

-- two hexadecimal digits follow each percent sign (RFC 3986, section 2.1)
abbrev pub escapes_are_whole : List ℕ → Bool
escapes_are_whole [] = true
escapes_are_whole (b ∷ after) =
    (not (b == 37) || begins_with_digits after) && escapes_are_whole after

-- what may follow the colon
abbrev pub is_uri_text : List ℕ → Bool
is_uri_text text = list_all is_uri_byte text && escapes_are_whole text

-- a text with a colon, a scheme before the first one, and characters of a URI after it, none of which
-- begins a fragment; where in the text each of these characters may be is not judged
unfoldable pub is_absolute_uri : List ℕ → Bool
is_absolute_uri text =
    nat_lt (position_or_len is_colon text) (length text)
    && is_scheme (before_first is_colon text)
    && is_uri_text (after_first is_colon text)
