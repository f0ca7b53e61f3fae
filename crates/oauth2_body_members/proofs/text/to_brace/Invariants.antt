use Rattle.std.proofs.Common.{◌≡◌, ℕ, ◌≤◌, length, map}
use Rattle.json.specs.Json.{members, value}
use Rattle.serde_json.specs.Data.{Members, no_members}
use Rattle.serde_json.specs.Read.{of_members, converted}
use Rattle.oauth2_body_members.specs.Object.{Keeps}
use Rattle.oauth2_body_members.specs.private.Found.{found_members}
use Rattle.oauth2_body_members.proofs.text.to_brace.Given as goal

abbrev pub invariant-members : goal.invariant-members
invariant-members l =
    (n : ℕ) × (length l.reader ≤ n) × (all : Members)
    × (converted (λ ms. of_members ms no_members) (members (value 126) (length l.initial.reader) l.initial.reader) ≡ converted (λ ms. of_members ms all) (members (value 126) n l.reader))
    × Keeps (map (λ k. k.now) l.names) l.keeps_others all (found_members l.list.items)

abbrev pub decreases-members : goal.decreases-members
decreases-members l = length l.reader
