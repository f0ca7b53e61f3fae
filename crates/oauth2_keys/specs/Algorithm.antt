-- The algorithms of signatures by a public key (RFC 7518, 3.1; RFC 8037, 3.1; RFC 9864, 2).
--
-- RFC 9864 has names that also tell the curve: `ESP256` is `ES256`, `ESP384` is `ES384`, `ESP512` is
-- `ES512`, and `Ed25519` is `EdDSA` with a key on that curve.
use Rattle.std.specs.Prelude.{ℕ, List, [], ◌∷◌, codes, bytes_eq, Bool, IsTrue, if◌then◌else◌, Option, Some, None}
use Rattle.rsa_signatures.specs.declared.signature_scheme.SignatureScheme.{SignatureScheme}
use Rattle.rsa_signatures.specs.declared.signature_scheme.SignatureScheme.TheVariants.{Pkcs1v15, Pss}
use Rattle.hash_functions.specs.declared.hash_function.HashFunction.TheVariants.{Sha256, Sha384, Sha512}
use Rattle.rsa_signatures.specs.PublicKey.{PublicKey as RsaKey}
use Rattle.rsa_signatures.specs.Signature.{IsSignature as IsRsaSignature}
use Rattle.ecdsa_signatures.specs.Signature.{IsSignature as IsEcdsaSignature}
use Rattle.eddsa_signatures.specs.Signature.{IsSignature as IsEddsaSignature}
use Rattle.ecdsa_signatures.specs.declared.curve.EllipticCurve.{EllipticCurve}
use Rattle.ecdsa_signatures.specs.declared.curve.EllipticCurve.TheVariants.{P256, P384, P521}
use Rattle.oauth2_openid.specs.Checks.{is_among}
use Rattle.oauth2_keys.specs.declared.algorithm.SignatureAlgorithm.{SignatureAlgorithm}
use Rattle.oauth2_keys.specs.declared.algorithm.SignatureAlgorithm.TheVariants.{Rs256, Rs384, Rs512, Ps256, Ps384, Ps512, Es256, Es384, Es512, Eddsa as EdDsa, Esp256, Esp384, Esp512, Ed25519}
use Rattle.oauth2_keys.specs.declared.public_key.PublicKey.{PublicKey}
use Rattle.oauth2_keys.specs.declared.public_key.PublicKey.TheVariants.{Rsa, Ecdsa, Eddsa}

-- the value of `alg` for an algorithm (RFC 7518, 3.1; RFC 8037, 3.1; RFC 9864, 2)
abbrev pub algorithm_name : SignatureAlgorithm → List ℕ
algorithm_name Rs256 = codes "RS256"
algorithm_name Rs384 = codes "RS384"
algorithm_name Rs512 = codes "RS512"
algorithm_name Ps256 = codes "PS256"
algorithm_name Ps384 = codes "PS384"
algorithm_name Ps512 = codes "PS512"
algorithm_name Es256 = codes "ES256"
algorithm_name Es384 = codes "ES384"
algorithm_name Es512 = codes "ES512"
algorithm_name EdDsa = codes "EdDSA"
algorithm_name Esp256 = codes "ESP256"
algorithm_name Esp384 = codes "ESP384"
algorithm_name Esp512 = codes "ESP512"
algorithm_name Ed25519 = codes "Ed25519"

-- the algorithm with this name (RFC 7518, 3.1; RFC 8037, 3.1; RFC 9864, 2); `None` for any other
-- name
abbrev pub algorithm_named : List ℕ → Option SignatureAlgorithm
algorithm_named name =
    if bytes_eq name (codes "RS256") then Some Rs256
    else (if bytes_eq name (codes "RS384") then Some Rs384
    else (if bytes_eq name (codes "RS512") then Some Rs512
    else (if bytes_eq name (codes "PS256") then Some Ps256
    else (if bytes_eq name (codes "PS384") then Some Ps384
    else (if bytes_eq name (codes "PS512") then Some Ps512
    else (if bytes_eq name (codes "ES256") then Some Es256
    else (if bytes_eq name (codes "ES384") then Some Es384
    else (if bytes_eq name (codes "ES512") then Some Es512
    else (if bytes_eq name (codes "EdDSA") then Some EdDsa
    else (if bytes_eq name (codes "ESP256") then Some Esp256
    else (if bytes_eq name (codes "ESP384") then Some Esp384
    else (if bytes_eq name (codes "ESP512") then Some Esp512
    else (if bytes_eq name (codes "Ed25519") then Some Ed25519
    else None)))))))))))))

-- the RSA scheme of an algorithm (RFC 7518, 3.3 and 3.5); those on curves have none
abbrev pub rsa_scheme : SignatureAlgorithm → Option SignatureScheme
rsa_scheme Rs256 = Some (Pkcs1v15 Sha256)
rsa_scheme Rs384 = Some (Pkcs1v15 Sha384)
rsa_scheme Rs512 = Some (Pkcs1v15 Sha512)
rsa_scheme Ps256 = Some (Pss Sha256)
rsa_scheme Ps384 = Some (Pss Sha384)
rsa_scheme Ps512 = Some (Pss Sha512)
rsa_scheme Es256 = None
rsa_scheme Es384 = None
rsa_scheme Es512 = None
rsa_scheme EdDsa = None
rsa_scheme Esp256 = None
rsa_scheme Esp384 = None
rsa_scheme Esp512 = None
rsa_scheme Ed25519 = None

-- the names of the algorithm of a curve (RFC 7518, 3.4; RFC 9864, 2.1)
abbrev pub curve_algorithms : EllipticCurve → List (List ℕ)
curve_algorithms P256 = codes "ES256" ∷ codes "ESP256" ∷ []
curve_algorithms P384 = codes "ES384" ∷ codes "ESP384" ∷ []
curve_algorithms P521 = codes "ES512" ∷ codes "ESP512" ∷ []

-- whether the algorithm is the one of the curve
abbrev pub is_of_curve : EllipticCurve → SignatureAlgorithm → Bool
is_of_curve curve algorithm = is_among (algorithm_name algorithm) (curve_algorithms curve)

-- whether the algorithm is that of keys on the curve Ed25519 (RFC 8037, 3.1; RFC 9864, 2.2)
abbrev pub is_eddsa : SignatureAlgorithm → Bool
is_eddsa algorithm = is_among (algorithm_name algorithm) (codes "EdDSA" ∷ codes "Ed25519" ∷ [])

-- the octets are a signature of the message by the RSA key and this scheme; without a scheme, no
-- octets are one
abbrev pub IsSignatureIn : Option SignatureScheme → RsaKey → List ℕ → List ℕ → Type 0
IsSignatureIn (Some scheme) key message signature =
    IsRsaSignature scheme key.modulus key.exponent message signature
IsSignatureIn None key message signature = ⊥

-- the octets are a signature of the message by this algorithm and this key: by the RSA scheme of the
-- algorithm, by ECDSA if the algorithm is the one of the key's curve, or by Ed25519 if it is the one of that curve
abbrev pub IsSignatureBy : SignatureAlgorithm → PublicKey → List ℕ → List ℕ → Type 0
IsSignatureBy algorithm (Rsa key) message signature =
    IsSignatureIn (rsa_scheme algorithm) key message signature
IsSignatureBy algorithm (Ecdsa key) message signature =
    IsTrue (is_of_curve key.curve algorithm) × IsEcdsaSignature key message signature
IsSignatureBy algorithm (Eddsa key) message signature =
    IsTrue (is_eddsa algorithm) × IsEddsaSignature key message signature
