use Rattle.std.proofs.Common.{◌≡◌, ℕ, ◌<◌, ◌≤◌, length, get_or, bit_xor}
use Rattle.hmac_signatures.proofs.hmac.padded_key.Given as goal

abbrev pub invariant-loop-i : goal.invariant-loop-i
invariant-loop-i l = record {
  long : length l.block ≡ 128;
  done : (k : ℕ) → k < l.i → get_or l.block k 0 ≡ bit_xor (get_or l.key k 0) l.with;
  left : (k : ℕ) → l.i ≤ k → k < 128 → get_or l.block k 0 ≡ l.with;
}
