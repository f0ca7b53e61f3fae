use Rattle.std.proofs.Common.{◌≡◌, ℕ, ◌+◌, ◌-◌, ◌*◌, ◌^◌, ◌<◌, ◌≤◌, get_or}
use Rattle.modular_arithmetic.specs.Octets.{number}
use Rattle.rsa_signatures.proofs.octets.put.Given as goal

abbrev pub invariant-loop-i : goal.invariant-loop-i
invariant-loop-i l = record {
  number : number l.octets + l.rest * 256 ^ (1024 - l.end + l.i) ≡ number l.fn.octets + l.limb * 256 ^ (1024 - l.end);
  bound : l.rest * 256 ^ l.i ≤ l.limb;
  zeros : (k : ℕ) → k < l.end - l.i → get_or l.octets k 0 ≡ 0;
}
