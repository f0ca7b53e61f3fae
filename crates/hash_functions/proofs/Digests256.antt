-- How long a digest of SHA-256 is.
use Rattle.std.proofs.Common.{◌≡◌, ℕ, zero, suc, ◌*◌, List, length, get_or, length-append, arith, refl}
use Rattle.std.specs.Int.{w32, to_be_bytes}
use Rattle.sha2.specs.Sha256.{digest_bytes, sha256}

length-digest_bytes : (h : List ℕ) (n : ℕ) → length (digest_bytes h n) ≡ 4 * n
unfolding digest_bytes
length-digest_bytes h zero = refl
length-digest_bytes h (suc n) =
    let word : length (to_be_bytes w32 (get_or h n 0)) ≡ 4 = refl in
    omega (arith, length-append (digest_bytes h n) (to_be_bytes w32 (get_or h n 0)), length-digest_bytes h n, word)

pub length-sha256 : (m : List ℕ) → length (sha256 m) ≡ 32
unfolding sha256
length-sha256 m = length-digest_bytes _ 8
