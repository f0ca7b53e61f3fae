-- The text that `Display` writes for the error.
use Rattle.std.specs.Prelude.{ℕ, List, codes}
use Rattle.hmac_signatures.specs.declared.key_error.HmacKeyError.{HmacKeyError}
use Rattle.hmac_signatures.specs.declared.key_error.HmacKeyError.TheVariants.{TooShort}

-- the text for the fault of a key
abbrev pub key_error_text : HmacKeyError → List ℕ
key_error_text TooShort = codes "the key is shorter than a digest"
