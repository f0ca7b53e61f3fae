-- A body whose JSON object is written again, with new values for some members.
use Rattle.std.specs.Prelude.{ℕ, List, Bool, Option, Some, None, is_some, unwrap_or, nat_lt, length, if◌then◌else◌}
use Rattle.json.specs.Json.{Json, object, Members, no_members, member}
use Rattle.json.specs.Print.{print}
use Rattle.json.specs.Tree.{json_tokens}
use Rattle.oauth2_adapters.specs.Objects.{any_member, object_of}
use Rattle.oauth2_adapters.specs.Reply.{Reply}

-- the new value of a member with this name and this value; `None` if it does not change
abbrev pub Change : Type 0
Change = List ℕ → Json → Option Json

-- at least one member changes
abbrev pub changes : Change → Members → Bool
changes change ms = any_member (λ name value. is_some (change name value)) ms

-- the members in their order, each with its new value if it has one
abbrev pub changed_members : Change → Members → Members
changed_members change no_members = no_members
changed_members change (member name value ms) =
    member name (unwrap_or (change name value) value) (changed_members change ms)

-- the text of an object: without white space, and each number with the digits that it was read with
abbrev pub object_text : Members → List ℕ
object_text ms = print (json_tokens (object ms))

-- the new body, if the body is one object and at least one of its members changes
abbrev pub new_body : Change → Option Members → Option (List ℕ)
new_body change None = None
new_body change (Some ms) =
    if changes change ms then Some (object_text (changed_members change ms)) else None

-- the reply with this body; unchanged without one
abbrev pub with_body : Option (List ℕ) → Reply → Reply
with_body None reply = reply
with_body (Some body) reply = record reply { body = body }

-- the reply with its members changed; unchanged if no member changes
abbrev pub with_changes : Change → Reply → Reply
with_changes change reply = with_body (new_body change (object_of reply.body)) reply

-- the reply has a body, so it is read, which needs memory
abbrev pub has_body : Reply → Bool
has_body reply = nat_lt 0 (length reply.body)
