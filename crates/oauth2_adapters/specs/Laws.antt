-- Laws of adapters and of their order.
use Rattle.std.specs.Prelude.{◌≡◌, ℕ, ◌==◌, ◌&&◌, List, Bool, false, is_some, codes}
use Rattle.http_header.specs.HeaderMap.{get}
use Rattle.oauth2_adapters.specs.ErrorsAtStatus200.{tells_error}
use Rattle.oauth2_adapters.specs.Objects.{object_of}
use Rattle.oauth2_adapters.specs.OtherMediaTypes.{has_type_of}
use Rattle.oauth2_adapters.specs.Reply.{Reply}
use Rattle.oauth2_adapters.specs.Rewriting.{Change, new_body}

-- a reply that is not of this kind is unchanged
abbrev pub LeavesAlone : (Reply → Reply) → (Reply → Bool) → Type 0
LeavesAlone adapted is_for = (reply : Reply) → is_for reply ≡ false → adapted reply ≡ reply

-- the order of two adapters does not matter for any reply
abbrev pub Commute : (Reply → Reply) → (Reply → Reply) → Type 0
Commute first second = (reply : Reply) → first (second reply) ≡ second (first reply)

-- the order of two adapters does not matter for a reply if the second is not for it, and not for
-- what the first makes of it
abbrev pub CommuteIfOneIsFor : (Reply → Reply) → (Reply → Reply) → (Reply → Bool) → Type 0
CommuteIfOneIsFor first second is_for =
    (reply : Reply) → is_for reply ≡ false → is_for (first reply) ≡ false → first (second reply) ≡ second (first reply)

-- `ErrorsAtStatus200` is for this reply
abbrev pub is_error_at_200 : Reply → Bool
is_error_at_200 reply = reply.status == 200 && tells_error (object_of reply.body)

-- an adapter that makes this change to members is for this reply
abbrev pub has_changes : Change → Reply → Bool
has_changes change reply = is_some (new_body change (object_of reply.body))

-- `OtherMediaTypes` with these media types is for this reply
abbrev pub has_listed_type : List (List ℕ) → Reply → Bool
has_listed_type types reply = has_type_of types (get reply.headers (codes "content-type"))
