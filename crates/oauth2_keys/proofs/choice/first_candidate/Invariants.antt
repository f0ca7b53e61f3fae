use Rattle.std.proofs.Common.{◌≡◌, length, option_copied}
use Rattle.oauth2_keys.specs.Choice.{candidates}
use Rattle.oauth2_keys.proofs.choice.first_candidate.Given as goal

abbrev pub invariant-loop-first : goal.invariant-loop-first
invariant-loop-first l = candidates l.algorithm (option_copied l.told) l.keys ≡ candidates l.algorithm (option_copied l.told) l.rest

abbrev pub decreases-loop-first : goal.decreases-loop-first
decreases-loop-first l = length l.rest
