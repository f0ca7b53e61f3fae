-- Texts compared by their digests.
use Rattle.std.proofs.Common.{◌≡◌, ℕ, List, true, ap}
use Rattle.std.proofs.lemmas.Slice.Eq.{bytes_eq-Decides}
use Rattle.sha2.specs.Sha256.{sha256}
use Rattle.oauth2_types.specs.Digest.{digest_eq}

-- equal texts have equal digests
pub digest_eq-equal : (a b : List ℕ) → a ≡ b → digest_eq a b ≡ true
digest_eq-equal a b e = (bytes_eq-Decides (sha256 a) (sha256 b)).1 (ap sha256 e)
