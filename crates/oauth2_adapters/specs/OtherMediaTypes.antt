-- Media types that are treated as JSON.
use Rattle.std.specs.Prelude.{ℕ, List, Bool, false, ◌==◌, ◌||◌, not, map, bytes_eq, codes, take_while, Option, Some, None, if◌then◌else◌}
use Rattle.std.specs.List.{list_any}
use Rattle.std.specs.Char.{to_ascii_lowercase}
use Rattle.http_header.specs.FieldValue.{FieldValue, plain_value}
use Rattle.http_header.specs.HeaderMap.{Entries, get, insert}
use Rattle.oauth2_adapters.specs.Reply.{Reply}

-- the byte belongs to the media type, which ends before a semicolon, a space or a tab (RFC 9110,
-- sections 8.3.1 and 5.6.6)
abbrev pub is_of_type : ℕ → Bool
is_of_type b = not (b == 59 || b == 32 || b == 9)

-- the media type of a Content-Type, without its parameters
abbrev pub media_type : List ℕ → List ℕ
media_type value = take_while is_of_type value

-- the media types are equal, ignoring ASCII case (RFC 9110, 8.3.1)
abbrev pub is_type : List ℕ → List ℕ → Bool
is_type own listed = bytes_eq (map to_ascii_lowercase own) (map to_ascii_lowercase listed)

-- there is a Content-Type, and its media type is one of these
abbrev pub has_type_of : List (List ℕ) → Option FieldValue → Bool
has_type_of types None = false
has_type_of types (Some value) = list_any (is_type (media_type value.bytes)) types

-- the headers with `application/json` as their only Content-Type
abbrev pub with_json_type : Entries FieldValue → Entries FieldValue
with_json_type headers =
    insert headers (codes "content-type") (plain_value (codes "application/json"))

-- the reply with the Content-Type of JSON if its first Content-Type has one of these media types;
-- any other reply is unchanged
abbrev pub as_json : List (List ℕ) → Reply → Reply
as_json types reply =
    if has_type_of types (get reply.headers (codes "content-type")) then record reply { headers = with_json_type reply.headers } else reply
