-- The public keys that this crate accepts (RFC 8017, 3.1).
use Rattle.std.specs.Prelude.{ℕ, ◌%◌, ◌^◌, nat_eq, nat_lt, nat_le, if◌then◌else◌, Result, Ok, Err}
use Rattle.rsa_signatures.specs.declared.key_error.RsaKeyError.{RsaKeyError}
use Rattle.rsa_signatures.specs.declared.key_error.RsaKeyError.TheVariants.{ModulusTooSmall, ModulusTooLarge, ModulusEven, ExponentTooLarge, ExponentTooSmall, ExponentEven}

-- a public key: the modulus n and the exponent e (RFC 8017, 3.1)
pub record PublicKey : Type 0 where
  pub modulus : ℕ
  pub exponent : ℕ

-- the least number of 2048 bits (RFC 7518, 3.3 and 3.5)
unfoldable pub least_modulus : ℕ
least_modulus = 2 ^ 2047

-- the least number of more than 8192 bits
unfoldable pub modulus_limit : ℕ
modulus_limit = 2 ^ 8192

-- the key with the modulus n and the exponent e, or its first fault
abbrev pub key_of : ℕ → ℕ → Result PublicKey RsaKeyError
key_of n e =
    if nat_lt n least_modulus then Err ModulusTooSmall
    else (if nat_le modulus_limit n then Err ModulusTooLarge
    else (if nat_eq (n % 2) 0 then Err ModulusEven
    else (if nat_le (2 ^ 64) e then Err ExponentTooLarge
    else (if nat_lt e 3 then Err ExponentTooSmall
    else (if nat_eq (e % 2) 0 then Err ExponentEven
    else Ok (record { modulus = n; exponent = e }))))))
