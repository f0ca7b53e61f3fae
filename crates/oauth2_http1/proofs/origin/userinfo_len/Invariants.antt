use Rattle.std.proofs.Common.{◌≡◌, ◌+◌, ◌≤◌, ◌==◌, not, length, take}
use Rattle.std.specs.List.{suffix_len}
use Rattle.oauth2_http1.proofs.origin.userinfo_len.Given as goal

abbrev pub invariant-loop-end : goal.invariant-loop-end
invariant-loop-end l =
    (l.end ≤ length l.authority) × (l.end + suffix_len (λ b. not (b == 64)) l.authority ≡ length l.authority + suffix_len (λ b. not (b == 64)) (take l.end l.authority))

abbrev pub decreases-loop-end : goal.decreases-loop-end
decreases-loop-end l = l.end
