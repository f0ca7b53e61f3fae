use Rattle.std.proofs.Common.{◌≡◌, map, take}
use Rattle.oauth2_types.proofs.try_clone.VecTryClone.try_clone.Given as goal

abbrev pub invariant-loop-value : goal.invariant-loop-value
invariant-loop-value g l = map g.T.TryClone.seen l.copies.items ≡ map g.T.TryClone.seen (take l.value-index l.value-items)
