-- Which octets are a signature (RFC 8017, 8).
use Rattle.std.specs.Prelude.{◌≡◌, ℕ, ◌%◌, ◌^◌, ◌<◌, List, length}
use Rattle.rsa_signatures.specs.declared.signature_scheme.SignatureScheme.{SignatureScheme}
use Rattle.rsa_signatures.specs.declared.signature_scheme.SignatureScheme.TheVariants.{Pkcs1v15, Pss}
use Rattle.modular_arithmetic.specs.Octets.{number}
use Rattle.rsa_signatures.specs.Octets.{HasOctets}
use Rattle.rsa_signatures.specs.Pkcs1.{pkcs1_encoded}
use Rattle.rsa_signatures.specs.Pss.{IsPssRepresentative}

-- m is an encoding of the message as a number, for a modulus n of `size` octets. RSASSA-PKCS1-v1_5
-- has one encoding (8.2.2, steps 3 and 4), RSASSA-PSS one for each salt (8.1.2, step 3).
abbrev pub IsEncoded : SignatureScheme → ℕ → ℕ → List ℕ → ℕ → Type 0
IsEncoded (Pkcs1v15 hash) n size message m = m ≡ number (pkcs1_encoded hash size message)
IsEncoded (Pss hash) n size message m = IsPssRepresentative hash n message m

-- the octets are a signature of the message by the key with modulus n and exponent e (8.1.2, 8.2.2)
pub record IsSignature (scheme : SignatureScheme) (n e : ℕ) (message signature : List ℕ) : Type 0 where
  -- step 1: as many octets as n has
  pub has_size : HasOctets n (length signature)
  -- step 2, RSAVP1 (5.2.2): the number s is in range, and its representative is s ^ e mod n
  pub is_below : number signature < n
  pub is_encoded : IsEncoded scheme n (length signature) message (number signature ^ e % n)
