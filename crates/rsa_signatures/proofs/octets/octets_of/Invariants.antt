use Rattle.std.proofs.Common.{◌≡◌, ℕ, ◌-◌, ◌*◌, ◌<◌, get_or}
use Rattle.modular_arithmetic.specs.Octets.{number}
use Rattle.modular_arithmetic.specs.Limbs.{value_below}
use Rattle.rsa_signatures.proofs.octets.octets_of.Given as goal

abbrev pub invariant-loop-i : goal.invariant-loop-i
invariant-loop-i l = record {
  number : number l.octets ≡ value_below l.limbs l.i;
  zeros : (k : ℕ) → k < 1024 - 8 * l.i → get_or l.octets k 0 ≡ 0;
}
