use Rattle.std.proofs.Common.{◌≡◌, take}
use Rattle.modular_arithmetic.specs.Octets.{number}
use Rattle.rsa_signatures.proofs.public_key.exponent_from_octets.Given as goal

abbrev pub invariant-loop-byte : goal.invariant-loop-byte
invariant-loop-byte l = l.exponent ≡ number (take l.byte-index l.bytes)
