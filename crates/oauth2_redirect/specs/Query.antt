-- The parameters of a redirect's query.
use Rattle.std.specs.Prelude.{ℕ, List, [], ◌∷◌, Bool, true, false, Option, Some, None, option_map, map, filter}
use Rattle.std.specs.Char.{is_ascii_graphic}
use Rattle.std.specs.List.{list_all}
use Rattle.std.specs.Str.Lossy.{utf8_lossy}
use Rattle.oauth2_form.specs.Pairs.{Pair}
use Rattle.oauth2_wire.specs.ByName.{bears, read_by_name}

-- whether the parameter has a value: one without is treated as omitted (RFC 6749, 3.1)
abbrev pub has_value : Pair → Bool
has_value (name, []) = false
has_value (name, byte ∷ bytes) = true

-- the parameters that have a value, in order; the others are treated as omitted (RFC 6749, 3.1)
abbrev pub sent_pairs : List Pair → List Pair
sent_pairs pairs = filter has_value pairs

-- the value of the first pair
abbrev pub first : List Pair → Option (List ℕ)
first [] = None
first (pair ∷ pairs) = Some pair.1

-- the values of all parameters with that name, in order, as text (U+FFFD for what is not UTF-8)
abbrev pub texts : List ℕ → List Pair → List (List ℕ)
texts name pairs = map (λ pair. utf8_lossy pair.1) (filter (bears name) (sent_pairs pairs))

-- the value of the parameter with that name, as text (U+FFFD for what is not UTF-8); `None` unless
-- it is sent exactly once (RFC 6749, 3.1)
abbrev pub sole_text : List ℕ → List Pair → Option (List ℕ)
sole_text name pairs = option_map utf8_lossy (read_by_name name (sent_pairs pairs))

-- the value of the first parameter with that name, as text (U+FFFD for what is not UTF-8)
abbrev pub first_text : List ℕ → List Pair → Option (List ℕ)
first_text name pairs = option_map utf8_lossy (first (filter (bears name) (sent_pairs pairs)))

-- whether every byte is a visible ASCII character (VCHAR of RFC 5234, B.1)
abbrev pub is_visible : List ℕ → Bool
is_visible text = list_all is_ascii_graphic text
