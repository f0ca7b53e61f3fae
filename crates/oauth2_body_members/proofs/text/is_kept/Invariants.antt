use Rattle.std.proofs.Common.{◌≡◌, drop, map}
use Rattle.oauth2_body_members.specs.Object.{has_name}
use Rattle.oauth2_body_members.proofs.text.is_kept.Given as goal

abbrev pub invariant-loop-own : goal.invariant-loop-own
invariant-loop-own l = has_name l.name (map (λ k. k.now) (drop l.own-index l.names)) ≡ has_name l.name (map (λ k. k.now) l.names)
