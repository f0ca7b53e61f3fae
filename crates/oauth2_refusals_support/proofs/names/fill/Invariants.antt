use Rattle.std.specs.Prelude.{◌≤◌, length}
use Rattle.oauth2_refusals_support.proofs.names.fill.Given as goal

abbrev pub invariant-loop : goal.invariant-loop
invariant-loop g l = l.filled ≤ length l.bytes
