use Rattle.std.proofs.Common.{◌≡◌, ℕ, ◌/◌, ◌%◌, ◌<◌, ◌++◌, length, take, get_or, bit_xor}
use Rattle.hash_functions.specs.HashFunction.{digest_of, hash_size}
use Rattle.rsa_signatures.specs.Octets.{octets_of}
use Rattle.rsa_signatures.proofs.Masks.{mask_octet}
use Rattle.rsa_signatures.proofs.pss.without_mask.Given as goal

abbrev pub invariant-loop-i : goal.invariant-loop-i
invariant-loop-i l = record {
  done : (k : ℕ) → k < l.i → get_or l.octets k 0 ≡ bit_xor (get_or l.masked k 0) (mask_octet l.hash l.seed k);
  room : length l.octets ≡ 1024;
  block : (l.i % hash_size l.hash ≡ 0 → ⊥) → take (hash_size l.hash) l.block ≡ digest_of l.hash (l.seed ++ octets_of 4 (l.i / hash_size l.hash));
}
