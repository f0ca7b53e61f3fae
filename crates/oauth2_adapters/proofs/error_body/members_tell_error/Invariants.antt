use Rattle.std.proofs.Common.{◌≡◌, ℕ, ◌≤◌, length, false}
use Rattle.json.specs.Json.{members, value}
use Rattle.oauth2_adapters.specs.private.ErrorMembers.{told_in}
use Rattle.oauth2_adapters.proofs.error_body.members_tell_error.Given as goal

abbrev pub invariant-members : goal.invariant-members
invariant-members l =
    (n : ℕ) × (length l.reader ≤ n)
    × (told_in false (members (value 126) (length l.initial.reader) l.initial.reader) ≡ told_in l.found (members (value 126) n l.reader))

abbrev pub decreases-members : goal.decreases-members
decreases-members l = length l.reader
