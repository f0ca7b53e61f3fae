-- An ID token whose signature was checked (OpenID Connect Core 1.0, 3.1.3.7, 6 to 8).
use Rattle.std.specs.Prelude.{◌≡◌, ◌≢◌, List, None, IsSome, Result, Ok, Err, codes}
use Rattle.serde_json.specs.Find.{get}
use Rattle.oauth2_openid.specs.Token.{DecodedToken}
use Rattle.oauth2_keys.specs.declared.algorithm.SignatureAlgorithm.{SignatureAlgorithm}
use Rattle.oauth2_keys.specs.declared.public_key.PublicKey.{PublicKey}
use Rattle.oauth2_keys.specs.declared.json_web_key.ListedKey.{ListedKey}
use Rattle.oauth2_keys.specs.declared.signature_error.SignatureError.{SignatureError}
use Rattle.oauth2_keys.specs.declared.signature_error.SignatureError.TheVariants as error
use Rattle.oauth2_keys.specs.Algorithm.{algorithm_name, IsSignatureBy}
use Rattle.oauth2_keys.specs.Choice.{chosen_key}

-- a function returned the expected key, seen by `meaning`, or the expected error
abbrev pub ChoosesAs : {T : Type 0} → (T → PublicKey) → Result T SignatureError
    → Result PublicKey SignatureError → Type 0
ChoosesAs meaning (Ok key) expected = expected ≡ Ok (meaning key)
ChoosesAs meaning (Err e) expected = expected ≡ Err e

-- the token has the registered algorithm, its header has no `crit` (RFC 7515, 4.1.11), and its
-- signature is one of the signed text by the key that is chosen for the token
pub record IsVerified (keys : List ListedKey) (algorithm : SignatureAlgorithm) (token : DecodedToken) : Type 0 where
  pub algorithm_is : token.header.own.algorithm ≡ algorithm_name algorithm
  pub no_extension : get (codes "crit") token.header.others ≡ None
  pub key : PublicKey
  pub key_is : chosen_key keys algorithm token.header.own.key_id ≡ Ok key
  pub signature_is : IsSignatureBy algorithm key token.signed token.signature

-- what is true of a token that is refused with this error; `ShortSecret` is told of a client's
-- secret, and never of a key of a set
abbrev pub IsRefusal : List ListedKey → SignatureAlgorithm → DecodedToken → SignatureError → Type 0
IsRefusal keys algorithm token error.OtherAlgorithm =
    token.header.own.algorithm ≢ algorithm_name algorithm
IsRefusal keys algorithm token error.CriticalExtension =
    IsSome (get (codes "crit") token.header.others)
IsRefusal keys algorithm token error.NoKey =
    chosen_key keys algorithm token.header.own.key_id ≡ Err error.NoKey
IsRefusal keys algorithm token error.AmbiguousKey =
    chosen_key keys algorithm token.header.own.key_id ≡ Err error.AmbiguousKey
IsRefusal keys algorithm token (error.UnusableKey fault) =
    chosen_key keys algorithm token.header.own.key_id ≡ Err (error.UnusableKey fault)
IsRefusal keys algorithm token error.ShortSecret = ⊥
IsRefusal keys algorithm token error.WrongSignature =
    (key : PublicKey) × (chosen_key keys algorithm token.header.own.key_id ≡ Ok key) × (IsSignatureBy algorithm key token.signed token.signature
    → ⊥)
