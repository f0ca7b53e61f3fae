-- HMAC (RFC 2104, 2).
use Rattle.std.specs.Prelude.{ℕ, ◌-◌, List, ◌++◌, length, map, replicate, bit_xor, nat_lt, if◌then◌else◌}
use Rattle.hash_functions.specs.declared.hash_function.HashFunction.{HashFunction}
use Rattle.hash_functions.specs.HashFunction.{digest_of, block_size}

-- the key, with zeros appended to make a string of B octets (step 1)
abbrev pub zero_filled : HashFunction → List ℕ → List ℕ
zero_filled hash key = key ++ replicate (block_size hash - length key) 0x00

-- each octet of a string exclusive-ored with that of ipad (step 2)
abbrev pub with_ipad : List ℕ → List ℕ
with_ipad block = map (λ octet. bit_xor octet 0x36) block

-- each octet of a string exclusive-ored with that of opad (step 5)
abbrev pub with_opad : List ℕ → List ℕ
with_opad block = map (λ octet. bit_xor octet 0x5c) block

-- H (K xor opad, H (K xor ipad, text)), where K is a string of B octets (steps 2 to 7)
abbrev pub hmac_of_block : HashFunction → List ℕ → List ℕ → List ℕ
hmac_of_block hash block text =
    digest_of hash (with_opad block ++ digest_of hash (with_ipad block ++ text))

-- the HMAC of a text: a key longer than B octets is hashed first
abbrev pub hmac : HashFunction → List ℕ → List ℕ → List ℕ
hmac hash key text =
    hmac_of_block hash (zero_filled hash (if nat_lt (block_size hash) (length key) then digest_of hash key else key)) text
