use Rattle.std.proofs.Common.{◌≡◌, ◌+◌, length}
use Rattle.serde_json.specs.View.{items_view}
use Rattle.oauth2_grants.specs.authorization_details.Details.{items_fault}
use Rattle.oauth2_grants.proofs.authorization_details.faults.items_fault.Given as goal

abbrev pub invariant-loop-rest : goal.invariant-loop-rest
invariant-loop-rest l =
    (items_fault l.number (items_view l.rest) ≡ items_fault 0 (items_view l.items)) × (l.number + length l.rest ≡ length l.items)

abbrev pub decreases-loop-rest : goal.decreases-loop-rest
decreases-loop-rest l = length l.rest
