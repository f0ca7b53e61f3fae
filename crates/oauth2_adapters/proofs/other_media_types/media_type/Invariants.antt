use Rattle.std.proofs.Common.{◌≡◌, ◌≤◌, ◌++◌, length, take, drop}
use Rattle.std.specs.Prelude.{take_while}
use Rattle.oauth2_adapters.specs.OtherMediaTypes.{is_of_type}
use Rattle.oauth2_adapters.proofs.other_media_types.media_type.Given as goal

abbrev pub invariant-loop-end : goal.invariant-loop-end
invariant-loop-end l = (l.end ≤ length l.value) × (take_while is_of_type l.value ≡ take l.end l.value ++ take_while is_of_type (drop l.end l.value))

abbrev pub decreases-loop-end : goal.decreases-loop-end
decreases-loop-end l = length (drop l.end l.value)
