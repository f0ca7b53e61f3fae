-- How long digests are.
use Rattle.std.proofs.Common.{◌≡◌, ℕ, List, length}
use Rattle.hash_functions.specs.declared.hash_function.HashFunction.{HashFunction}
use Rattle.hash_functions.specs.declared.hash_function.HashFunction.TheVariants.{Sha256, Sha384, Sha512}
use Rattle.hash_functions.specs.HashFunction.{digest_of, hash_size}
use Rattle.hash_functions.proofs.Digests256.{length-sha256}
use Rattle.hash_functions.proofs.Digests512.{length-sha384, length-sha512}

pub length-digest_of : (hash : HashFunction) (m : List ℕ) → length (digest_of hash m) ≡ hash_size hash
length-digest_of Sha256 m = length-sha256 m
length-digest_of Sha384 m = length-sha384 m
length-digest_of Sha512 m = length-sha512 m
