-- The signature of an ID token (OpenID Connect Core 1.0, 3.1.3.7, 6 to 8, and 10.1).
use Rattle.std.specs.Prelude.{ℕ, List}
use Rattle.oauth2_openid.specs.Token.{DecodedToken}
use Rattle.oauth2_keys.specs.declared.algorithm.SignatureAlgorithm.{SignatureAlgorithm}
use Rattle.oauth2_keys.specs.declared.secret_algorithm.SecretAlgorithm.{SecretAlgorithm}
use Rattle.oauth2_keys.specs.declared.json_web_key.ListedKey.{ListedKey}
use Rattle.oauth2_keys.specs.declared.signature_error.SignatureError.{SignatureError}
use Rattle.oauth2_keys.specs.Algorithm.{algorithm_name}
use Rattle.oauth2_keys.specs.Secret.{secret_algorithm_name, IsVerifiedBySecret, IsSecretRefusal}
use Rattle.oauth2_keys.specs.Verified.{IsVerified, IsRefusal}
use Rattle.oauth2_keys.specs.declared.signature_check.SignatureCheck.{SignatureCheck}
use Rattle.oauth2_keys.specs.declared.signature_check.SignatureCheck.TheVariants as checks

-- how a signature is checked: by the provider's keys or by the client's secret, and with the
-- algorithm that the client registered
pub data Check : Type 0 where
  by_keys : List ListedKey → SignatureAlgorithm → Check
  by_secret : List ℕ → SecretAlgorithm → Check

-- the check that a `SignatureCheck` stands for, without its place in memory
abbrev pub check_of : SignatureCheck → Check
check_of (checks.Keys keys algorithm) = by_keys keys.now algorithm
check_of (checks.Secret secret algorithm) = by_secret secret.now algorithm

-- the name of the registered algorithm, as `alg` has it (RFC 7515, 4.1.1)
abbrev pub registered_algorithm : Check → List ℕ
registered_algorithm (by_keys keys algorithm) = algorithm_name algorithm
registered_algorithm (by_secret secret algorithm) = secret_algorithm_name algorithm

-- the token has the registered algorithm, and is signed by the key that is chosen for it, or with
-- the secret
abbrev pub IsSigned : Check → DecodedToken → Type 0
IsSigned (by_keys keys algorithm) token = IsVerified keys algorithm token
IsSigned (by_secret secret algorithm) token = IsVerifiedBySecret secret algorithm token

-- the error says why the check refuses the token's signature
abbrev pub IsSignatureRefusal : Check → DecodedToken → SignatureError → Type 0
IsSignatureRefusal (by_keys keys algorithm) token error = IsRefusal keys algorithm token error
IsSignatureRefusal (by_secret secret algorithm) token error =
    IsSecretRefusal secret algorithm token error
