use Rattle.std.proofs.Common.{◌≡◌, ◌%◌, replicate}
use Rattle.modular_arithmetic.specs.Octets.{number_onto}
use Rattle.modular_arithmetic.specs.Limbs.{AreLimbs, limb_weight, value_below}
use Rattle.rsa_signatures.proofs.octets.push_repeated.Given as goal

abbrev pub invariant-loop-i : goal.invariant-loop-i
invariant-loop-i l = record {
  limbs : AreLimbs l.limbs l.len;
  value : value_below l.limbs l.len % limb_weight l.len
      ≡ number_onto (value_below l.fn.limbs l.len) (replicate l.i l.octet) % limb_weight l.len;
}
