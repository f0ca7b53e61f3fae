-- EMSA-PSS-VERIFY (RFC 8017, 9.1.2), with MGF1 (B.2.1) over the hash function of the message, and a
-- salt as long as a digest (RFC 7518, 3.5).
use Rattle.std.specs.Prelude.{◌≡◌, ℕ, zero, suc, ◌+◌, ◌-◌, ◌*◌, ◌/◌, ◌%◌, ◌^◌, ◌<◌, List, [], ◌∷◌, ◌++◌, length, take, drop, replicate, bit_xor, slice_index}
use Rattle.hash_functions.specs.declared.hash_function.HashFunction.{HashFunction}
use Rattle.hash_functions.specs.HashFunction.{digest_of, hash_size}
use Rattle.rsa_signatures.specs.Octets.{HasBits, octets_of}

-- the first blocks of a mask: Hash (seed || 00 00 00 00) || Hash (seed || 00 00 00 01) || ..
unfoldable pub mask_blocks : HashFunction → List ℕ → ℕ → List ℕ
mask_blocks hash seed zero = []
mask_blocks hash seed (suc counter) =
    mask_blocks hash seed counter ++ digest_of hash (seed ++ octets_of 4 counter)

-- MGF1 (B.2.1): a mask of `size` octets, cut from as many blocks as it takes
abbrev pub mgf1 : HashFunction → List ℕ → ℕ → List ℕ
mgf1 hash seed size =
    take size (mask_blocks hash seed ((size + hash_size hash - 1) / hash_size hash))

-- the exclusive or of two lists of octets, as long as the shorter one
unfoldable pub exclusive_or : List ℕ → List ℕ → List ℕ
exclusive_or [] ys = []
exclusive_or (x ∷ xs) [] = []
exclusive_or (x ∷ xs) (y ∷ ys) = bit_xor x y ∷ exclusive_or xs ys

-- the octets, with the first `unused` bits (at most 8) set to zero
abbrev pub with_zero_bits : ℕ → List ℕ → List ℕ
with_zero_bits unused [] = []
with_zero_bits unused (x ∷ xs) = x % 2 ^ (8 - unused) ∷ xs

-- the size of maskedDB and of DB in octets (step 5)
abbrev pub block_size : HashFunction → List ℕ → ℕ
block_size hash em = length em - hash_size hash - 1

-- H: the octets after maskedDB, as many as in a digest (step 5)
abbrev pub hash_part : HashFunction → List ℕ → List ℕ
hash_part hash em = take (hash_size hash) (drop (block_size hash em) em)

-- DB: maskedDB without its mask, with the unused bits set to zero (steps 7 to 9)
abbrev pub data_block : HashFunction → ℕ → List ℕ → List ℕ
data_block hash unused em =
    let size = block_size hash em in
    with_zero_bits unused (exclusive_or (take size em) (mgf1 hash (hash_part hash em) size))

-- where the salt starts in DB, in octets (step 11)
abbrev pub salt_start : HashFunction → List ℕ → ℕ
salt_start hash em = block_size hash em - hash_size hash

-- em is an encoding of the message in which the first `unused` bits are unused. Step 1 (the longest
-- message) is left out. Step 3 (em is long enough) never fails for keys of 2048 bits or more.
pub record IsPssEncoding (hash : HashFunction) (unused : ℕ) (message em : List ℕ) : Type 0 where
  -- step 4
  pub trailer : slice_index em (length em - 1) ≡ 0xbc
  -- step 6
  pub unused_bits : slice_index em 0 < 2 ^ (8 - unused)
  -- step 10
  pub padding : take (salt_start hash em) (data_block hash unused em) ≡ replicate (salt_start hash em - 1) 0 ++ 0x01 ∷ []
  -- steps 2 and 11 to 14: H is the digest of M'
  pub hash_is : hash_part hash em ≡ digest_of hash (replicate 8 0 ++ digest_of hash message ++ drop (salt_start hash em) (data_block hash unused em))

-- emLen, the size of an encoding in octets: emBits / 8, rounded up
abbrev pub em_size : ℕ → ℕ
em_size em_bits = (em_bits + 7) / 8

-- m is an encoding of the message as a number, for the modulus n (8.1.2, steps 2c and 3)
pub record IsPssRepresentative (hash : HashFunction) (n : ℕ) (message : List ℕ) (m : ℕ) : Type 0 where
  pub mod_bits : ℕ
  pub has_bits : HasBits n mod_bits
  -- I2OSP (4.1): the number fits emLen octets
  pub fits : m < 256 ^ em_size (mod_bits - 1)
  pub is_encoding : IsPssEncoding hash (8 * em_size (mod_bits - 1) - (mod_bits - 1)) message (octets_of (em_size (mod_bits - 1)) m)
