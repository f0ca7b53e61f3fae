-- The texts that `Display` writes for the errors.
use Rattle.std.specs.Prelude.{ℕ, List, codes}
use Rattle.rsa_signatures.specs.declared.key_error.RsaKeyError.{RsaKeyError}
use Rattle.rsa_signatures.specs.declared.key_error.RsaKeyError.TheVariants.{ModulusTooSmall, ModulusTooLarge, ModulusEven, ExponentTooLarge, ExponentTooSmall, ExponentEven}

-- the text for each fault of a public key
abbrev pub key_error_text : RsaKeyError → List ℕ
key_error_text ModulusTooSmall = codes "the modulus has fewer than 2048 bits"
key_error_text ModulusTooLarge = codes "the modulus has more than 8192 bits"
key_error_text ModulusEven = codes "the modulus is even"
key_error_text ExponentTooLarge = codes "the exponent has more than 64 bits"
key_error_text ExponentTooSmall = codes "the exponent is less than 3"
key_error_text ExponentEven = codes "the exponent is even"
