use Rattle.std.proofs.Common.{◌≡◌, drop}
use Rattle.oauth2_keys.specs.Choice.{fault_of}
use Rattle.oauth2_keys.proofs.choice.fault_of.Given as goal

abbrev pub invariant-loop-key : goal.invariant-loop-key
invariant-loop-key l = fault_of l.told l.keys ≡ fault_of l.told (drop l.key-index l.keys)
