-- EMSA-PKCS1-v1_5-ENCODE (RFC 8017, 9.2).
use Rattle.std.specs.Prelude.{ℕ, ◌-◌, List, [], ◌∷◌, ◌++◌, length, replicate}
use Rattle.hash_functions.specs.declared.hash_function.HashFunction.{HashFunction}
use Rattle.hash_functions.specs.declared.hash_function.HashFunction.TheVariants.{Sha256, Sha384, Sha512}
use Rattle.hash_functions.specs.HashFunction.{digest_of}

-- the DER of a DigestInfo up to its digest (note 1)
abbrev pub digest_prefix : HashFunction → List ℕ
digest_prefix Sha256 =
    0x30 ∷ 0x31 ∷ 0x30 ∷ 0x0d ∷ 0x06 ∷ 0x09 ∷ 0x60 ∷ 0x86 ∷ 0x48 ∷ 0x01
    ∷ 0x65 ∷ 0x03 ∷ 0x04 ∷ 0x02 ∷ 0x01 ∷ 0x05 ∷ 0x00 ∷ 0x04 ∷ 0x20 ∷ []
digest_prefix Sha384 =
    0x30 ∷ 0x41 ∷ 0x30 ∷ 0x0d ∷ 0x06 ∷ 0x09 ∷ 0x60 ∷ 0x86 ∷ 0x48 ∷ 0x01
    ∷ 0x65 ∷ 0x03 ∷ 0x04 ∷ 0x02 ∷ 0x02 ∷ 0x05 ∷ 0x00 ∷ 0x04 ∷ 0x30 ∷ []
digest_prefix Sha512 =
    0x30 ∷ 0x51 ∷ 0x30 ∷ 0x0d ∷ 0x06 ∷ 0x09 ∷ 0x60 ∷ 0x86 ∷ 0x48 ∷ 0x01
    ∷ 0x65 ∷ 0x03 ∷ 0x04 ∷ 0x02 ∷ 0x03 ∷ 0x05 ∷ 0x00 ∷ 0x04 ∷ 0x40 ∷ []

-- 00 01 FF .. FF 00 T, padded to `size` octets (steps 3 to 6)
abbrev pub with_padding : ℕ → List ℕ → List ℕ
with_padding size t = 0x00 ∷ 0x01 ∷ replicate (size - length t - 3) 0xff ++ 0x00 ∷ t

-- EM, where T is the DigestInfo of the message's digest (steps 1 to 6). Step 3 (EM is long enough)
-- never fails for keys of 2048 bits or more.
abbrev pub pkcs1_encoded : HashFunction → ℕ → List ℕ → List ℕ
pkcs1_encoded hash size message = with_padding size (digest_prefix hash ++ digest_of hash message)
