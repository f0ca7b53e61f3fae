-- The keys that this crate accepts (RFC 7518, 3.2).
use Rattle.std.specs.Prelude.{ℕ, List, length, nat_lt, if◌then◌else◌, Result, Ok, Err}
use Rattle.hash_functions.specs.declared.hash_function.HashFunction.{HashFunction}
use Rattle.hmac_signatures.specs.declared.key_error.HmacKeyError.{HmacKeyError}
use Rattle.hmac_signatures.specs.declared.key_error.HmacKeyError.TheVariants.{TooShort}
use Rattle.hash_functions.specs.HashFunction.{hash_size}

-- a secret key: its octets, and the hash function that it is used with
pub record SecretKey : Type 0 where
  pub hash : HashFunction
  pub octets : List ℕ

-- the key of these octets, which have to be as long as a digest or longer
abbrev pub key_of : HashFunction → List ℕ → Result SecretKey HmacKeyError
key_of hash octets =
    if nat_lt (length octets) (hash_size hash) then Err TooShort
    else Ok (record { hash = hash; octets = octets })
