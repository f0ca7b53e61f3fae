use Rattle.std.proofs.Common.{◌≡◌, ℕ, ◌<◌, get_or}
use Rattle.hmac_signatures.proofs.hmac.is_same.Given as goal

abbrev pub invariant-loop-i : goal.invariant-loop-i
invariant-loop-i l = record {
  same : l.differences ≡ 0 → (k : ℕ) → k < l.i → get_or l.a k 0 ≡ get_or l.b k 0;
  zero : ((k : ℕ) → k < l.i → get_or l.a k 0 ≡ get_or l.b k 0) → l.differences ≡ 0;
}
