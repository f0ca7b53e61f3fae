use Rattle.std.proofs.Common.{◌≡◌, ◌≤◌, ◌-◌, ◌++◌, length, take, drop}
use Rattle.oauth2_http1.specs.Origin.{place_of}
use Rattle.oauth2_http1_connections.specs.Idle.{find, without}
use Rattle.oauth2_http1_connections.proofs.idle.IdleConnections.position.Given as goal

abbrev pub invariant-loop-index : goal.invariant-loop-index
invariant-loop-index g l =
    let kept = l.self.kept.items in
    let place = place_of l.to in
    (l.index ≤ length kept) × (find place kept ≡ find place (drop l.index kept))
    × (without place kept ≡ take l.index kept ++ without place (drop l.index kept))

abbrev pub decreases-loop-index : goal.decreases-loop-index
decreases-loop-index g l = length l.self.kept.items - l.index
