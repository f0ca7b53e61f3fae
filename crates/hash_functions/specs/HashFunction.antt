-- The hash functions (FIPS 180-4), and their sizes as RFC 8017, B.1, and RFC 2104, 2, name them.
use Rattle.std.specs.Prelude.{ℕ, List}
use Rattle.sha2.specs.Sha256.{sha256}
use Rattle.sha2.specs.Sha512.{sha384, sha512}
use Rattle.hash_functions.specs.declared.hash_function.HashFunction.{HashFunction}
use Rattle.hash_functions.specs.declared.hash_function.HashFunction.TheVariants.{Sha256, Sha384, Sha512}

-- the digest of a message: Hash (M) in RFC 8017, H in RFC 2104
abbrev pub digest_of : HashFunction → List ℕ → List ℕ
digest_of Sha256 message = sha256 message
digest_of Sha384 message = sha384 message
digest_of Sha512 message = sha512 message

-- the size of a digest in octets (FIPS 180-4, figure 1): hLen in RFC 8017, L in RFC 2104
abbrev pub hash_size : HashFunction → ℕ
hash_size Sha256 = 32
hash_size Sha384 = 48
hash_size Sha512 = 64

-- the size of a block in octets (FIPS 180-4, figure 1): B in RFC 2104
abbrev pub block_size : HashFunction → ℕ
block_size Sha256 = 64
block_size Sha384 = 128
block_size Sha512 = 128
