use Rattle.std.proofs.Common.{◌≡◌, ℕ, ◌≤◌, length, false}
use Rattle.json.specs.Json.{members, value}
use Rattle.oauth2_adapters.specs.private.Written.{progress_in}
use Rattle.oauth2_adapters.proofs.rewriting.write_members.Given as goal

abbrev pub invariant-members : goal.invariant-members
invariant-members g l =
    (n : ℕ) × (length l.reader ≤ n)
    × (progress_in (g.M.MemberChange.change l.change) false l.initial.writer.tokens (members (value 126) (length l.initial.reader) l.initial.reader) ≡ progress_in (g.M.MemberChange.change l.change) l.changed l.writer.tokens (members (value 126) n l.reader))
    × (l.writer.before ≡ l.initial.writer.before)

abbrev pub decreases-members : goal.decreases-members
decreases-members g l = length l.reader
