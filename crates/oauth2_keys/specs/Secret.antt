-- ID tokens signed with the client's secret (OpenID Connect Core 1.0, 3.1.3.7, 8, and 10.1).
use Rattle.std.specs.Prelude.{◌≡◌, ◌≢◌, ◌<◌, ◌≤◌, ℕ, List, length, None, IsSome, codes}
use Rattle.serde_json.specs.Find.{get}
use Rattle.hash_functions.specs.declared.hash_function.HashFunction.{HashFunction}
use Rattle.hash_functions.specs.declared.hash_function.HashFunction.TheVariants.{Sha256, Sha384, Sha512}
use Rattle.hash_functions.specs.HashFunction.{hash_size}
use Rattle.hmac_signatures.specs.Hmac.{hmac}
use Rattle.oauth2_openid.specs.Token.{DecodedToken}
use Rattle.oauth2_keys.specs.declared.secret_algorithm.SecretAlgorithm.{SecretAlgorithm}
use Rattle.oauth2_keys.specs.declared.secret_algorithm.SecretAlgorithm.TheVariants.{Hs256, Hs384, Hs512}
use Rattle.oauth2_keys.specs.declared.signature_error.SignatureError.{SignatureError}
use Rattle.oauth2_keys.specs.declared.signature_error.SignatureError.TheVariants as error

-- the value of `alg` for an algorithm (RFC 7518, 3.1)
abbrev pub secret_algorithm_name : SecretAlgorithm → List ℕ
secret_algorithm_name Hs256 = codes "HS256"
secret_algorithm_name Hs384 = codes "HS384"
secret_algorithm_name Hs512 = codes "HS512"

-- the hash function of an algorithm (RFC 7518, 3.2)
abbrev pub hash_of : SecretAlgorithm → HashFunction
hash_of Hs256 = Sha256
hash_of Hs384 = Sha384
hash_of Hs512 = Sha512

-- the token has the registered algorithm, its header has no `crit` (RFC 7515, 4.1.11), the secret is
-- as long as a digest or longer, and the signature is the HMAC of the signed text
pub record IsVerifiedBySecret (secret : List ℕ) (algorithm : SecretAlgorithm) (token : DecodedToken) : Type 0 where
  pub algorithm_is : token.header.own.algorithm ≡ secret_algorithm_name algorithm
  pub no_extension : get (codes "crit") token.header.others ≡ None
  pub size_is : hash_size (hash_of algorithm) ≤ length secret
  pub signature_is : token.signature ≡ hmac (hash_of algorithm) secret token.signed

-- the reasons why a token is refused, and what is true of the token for each
abbrev pub IsSecretRefusal : List ℕ → SecretAlgorithm → DecodedToken → SignatureError → Type 0
IsSecretRefusal secret algorithm token error.OtherAlgorithm =
    token.header.own.algorithm ≢ secret_algorithm_name algorithm
IsSecretRefusal secret algorithm token error.CriticalExtension =
    IsSome (get (codes "crit") token.header.others)
IsSecretRefusal secret algorithm token error.NoKey = ⊥
IsSecretRefusal secret algorithm token error.AmbiguousKey = ⊥
IsSecretRefusal secret algorithm token (error.UnusableKey fault) = ⊥
IsSecretRefusal secret algorithm token error.ShortSecret =
    length secret < hash_size (hash_of algorithm)
IsSecretRefusal secret algorithm token error.WrongSignature =
    token.signature ≢ hmac (hash_of algorithm) secret token.signed
