-- A body that is one JSON object, and its members in the order of the body (RFC 8259, 4).
use Rattle.std.specs.Prelude.{ℕ, List, Bool, true, false, ◌||◌, Option, Some, None, option_and_then, if◌then◌else◌}
use Rattle.std.specs.Str.{is_utf8}
use Rattle.json.specs.Json.{Json, null, boolean, number, string, array, object, Members, no_members, member, value, if_last}
use Rattle.json.specs.Lex.{tokens}

-- the members of a JSON value, if it is an object
abbrev pub members_of : Json → Option Members
members_of null = None
members_of (boolean b) = None
members_of (number s) = None
members_of (string s) = None
members_of (array js) = None
members_of (object ms) = Some ms

-- the members of a text, if it is one JSON object that nests at most 127 deep, as each reply that is
-- read
abbrev pub object_in : List ℕ → Option Members
object_in text =
    option_and_then members_of (option_and_then (λ p. if_last p.0 p.1) (value 127 (tokens text)))

-- the members of a body, if it is UTF-8 and one JSON object that nests at most 127 deep
abbrev pub object_of : List ℕ → Option Members
object_of body = if is_utf8 body then object_in body else None

-- at least one member passes a test of its name and its value
abbrev pub any_member : (List ℕ → Json → Bool) → Members → Bool
any_member passes no_members = false
any_member passes (member name value ms) = passes name value || any_member passes ms

-- the JSON value is a string
abbrev pub is_text : Json → Bool
is_text null = false
is_text (boolean b) = false
is_text (number s) = false
is_text (string s) = true
is_text (array js) = false
is_text (object ms) = false
