use Rattle.std.proofs.Common.{◌≡◌, replicate}
use Rattle.oauth2_shared_keeper_command.specs.Renewal.{over}
use Rattle.oauth2_shared_keeper_command.proofs.fleet.no_renewals.Given as goal

abbrev pub invariant-loop : goal.invariant-loop
invariant-loop l = l.renewals.items ≡ replicate l.counter over
