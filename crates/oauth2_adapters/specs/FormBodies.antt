-- Bodies that are forms instead of JSON.
use Rattle.std.specs.Prelude.{ℕ, List, [], ◌∷◌, Bool, false, ◌||◌, ◌&&◌, map, bytes_eq, codes, Option, Some, None, if◌then◌else◌}
use Rattle.std.specs.List.{list_any}
use Rattle.http_header.specs.HeaderMap.{get}
use Rattle.json.specs.Json.{Json, number, string, Members, no_members, member}
use Rattle.oauth2_form.specs.Pairs.{Pair, form}
use Rattle.oauth2_wire.specs.ServerView.{shown_pair}
use Rattle.oauth2_adapters.specs.NumbersAsTexts.{is_digits}
use Rattle.oauth2_adapters.specs.OtherMediaTypes.{has_type_of, with_json_type}
use Rattle.oauth2_adapters.specs.Reply.{Reply}
use Rattle.oauth2_adapters.specs.Rewriting.{object_text}

-- the JSON value for a value of the form: a number for an `expires_in` of decimal digits (RFC 6749,
-- 5.1), and else a string
abbrev pub form_value : List ℕ → List ℕ → Json
form_value name value =
    if bytes_eq name (codes "expires_in") && is_digits value then number value else string value

-- one member for each pair, in the order of the form
abbrev pub form_members : List Pair → Members
form_members [] = no_members
form_members (pair ∷ pairs) = member pair.0 (form_value pair.0 pair.1) (form_members pairs)

-- at least one pair has this name
abbrev pub has_pair : List ℕ → List Pair → Bool
has_pair name pairs = list_any (λ pair. bytes_eq pair.0 name) pairs

-- two pairs have the same name
abbrev pub repeats : List Pair → Bool
repeats [] = false
repeats (pair ∷ pairs) = has_pair pair.0 pairs || repeats pairs

-- the pairs of a body as texts, with U+FFFD in place of what is not UTF-8
abbrev pub pairs_of : List ℕ → List Pair
pairs_of body = map shown_pair (form body)

-- the text of the JSON object with these pairs, unless two have the same name
abbrev pub form_object : List Pair → Option (List ℕ)
form_object pairs = if repeats pairs then None else Some (object_text (form_members pairs))

-- the reply with this body and the Content-Type of JSON; unchanged without a body
abbrev pub with_object : Option (List ℕ) → Reply → Reply
with_object None reply = reply
with_object (Some body) reply = record reply { headers = with_json_type reply.headers; body = body }

-- the media type of the first Content-Type is that of a form
abbrev pub is_form : Reply → Bool
is_form reply =
    has_type_of (codes "application/x-www-form-urlencoded" ∷ [])
    (get reply.headers (codes "content-type"))

-- the reply with its form as a JSON object and the Content-Type of JSON; any other reply is
-- unchanged
abbrev pub form_as_json : Reply → Reply
form_as_json reply =
    if is_form reply then with_object (form_object (pairs_of reply.body)) reply else reply
