-- Error responses that a server sends with status 200.
use Rattle.std.specs.Prelude.{ℕ, List, Bool, false, ◌&&◌, ◌||◌, ◌==◌, not, bytes_eq, codes, Option, Some, None, nat_lt, length, if◌then◌else◌}
use Rattle.json.specs.Json.{Json, Members}
use Rattle.oauth2_adapters.specs.Objects.{object_of, any_member, is_text}
use Rattle.oauth2_adapters.specs.Reply.{Reply}

-- the member is an `error` whose value is a string, as in an error response (RFC 6749, 5.2)
abbrev pub is_error : List ℕ → Json → Bool
is_error name value = bytes_eq name (codes "error") && is_text value

-- the member belongs to a success (RFC 6749, 5.1; RFC 8628, 3.2; RFC 7662, 2.2), or is an `error`
-- whose value is not a string
abbrev pub is_no_error : List ℕ → Json → Bool
is_no_error name value =
    bytes_eq name (codes "access_token") || bytes_eq name (codes "device_code")
    || bytes_eq name (codes "active") || (bytes_eq name (codes "error") && not (is_text value))

-- the members are those of an error response: one has an error, and none belongs to a success
abbrev pub are_error_members : Members → Bool
are_error_members ms = any_member is_error ms && not (any_member is_no_error ms)

-- a body with these members is an error response; `None` stands for a body that is no JSON object
abbrev pub tells_error : Option Members → Bool
tells_error None = false
tells_error (Some ms) = are_error_members ms

-- a reply with status 200 whose body is an error response has status 400 instead (RFC 6749, 5.2);
-- any other reply is unchanged
abbrev pub error_at_400 : Reply → Reply
error_at_400 reply =
    if reply.status == 200 && tells_error (object_of reply.body) then record reply { status = 400 } else reply

-- the reply has status 200 and a body, so its body is read, which needs memory
abbrev pub is_read : Reply → Bool
is_read reply = reply.status == 200 && nat_lt 0 (length reply.body)
