-- The thumbprint of a JSON Web Key (RFC 7638; RFC 8037, 2).
use Rattle.std.specs.Prelude.{ℕ, List, ◌++◌, codes, bytes_eq, if◌then◌else◌, Option, Some, None, Ok, Err}
use Rattle.serde_json.specs.Data.{Data}
use Rattle.ecdsa_signatures.specs.declared.curve.EllipticCurve.{EllipticCurve}
use Rattle.sha2.specs.Sha256.{sha256}
use Rattle.oauth2_types.specs.Pkce.{base64url}
use Rattle.oauth2_keys.specs.declared.key_error.KeyMember.TheVariants as member
use Rattle.oauth2_keys.specs.declared.key_error.KeyError.TheVariants as error
use Rattle.oauth2_keys.specs.Curves.{curve_name, curve_named}
use Rattle.oauth2_keys.specs.Members.{KeyReading, ◌⊛◌, key_then, needed_text, base64_text}

-- 3.2 and 3.3: an RSA key as JSON: only the required members, ordered by name, without white space
abbrev pub rsa_text : List ℕ → List ℕ → List ℕ
rsa_text e n = codes "{\"e\":\"" ++ e ++ codes "\",\"kty\":\"RSA\",\"n\":\"" ++ n ++ codes "\"}"

-- 3.2 and 3.3: the same for a key on a curve
abbrev pub elliptic_text : EllipticCurve → List ℕ → List ℕ → List ℕ
elliptic_text curve x y =
    codes "{\"crv\":\""
    ++ curve_name curve
    ++ codes "\",\"kty\":\"EC\",\"x\":\""
    ++ x
    ++ codes "\",\"y\":\""
    ++ y
    ++ codes "\"}"

-- the text that is hashed for an RSA key; its members have to be base64url, which needs no escape
-- in JSON
abbrev pub rsa_canonical : Data → KeyReading (List ℕ)
rsa_canonical key = Ok rsa_text ⊛ base64_text member.Exponent key ⊛ base64_text member.Modulus key

-- the text that is hashed for a key on this curve; an error if the curve has no known name
abbrev pub canonical_on : Option EllipticCurve → Data → KeyReading (List ℕ)
canonical_on None key = Err error.UnknownCurve
canonical_on (Some curve) key =
    Ok (elliptic_text curve) ⊛ base64_text member.X key ⊛ base64_text member.Y key

-- the text that is hashed for an elliptic curve key
abbrev pub elliptic_canonical : Data → KeyReading (List ℕ)
elliptic_canonical key =
    key_then (needed_text member.Curve key) (λ name. canonical_on (curve_named name) key)

-- the text that is hashed for a key of Ed25519 (RFC 8037, 2 and A.3)
abbrev pub eddsa_text : List ℕ → List ℕ
eddsa_text x = codes "{\"crv\":\"Ed25519\",\"kty\":\"OKP\",\"x\":\"" ++ x ++ codes "\"}"

-- that text of an octet key pair, whose curve has to be Ed25519
abbrev pub octet_canonical : Data → KeyReading (List ℕ)
octet_canonical key =
    key_then (needed_text member.Curve key) (λ name.
    if bytes_eq name (codes "Ed25519") then Ok eddsa_text ⊛ base64_text member.X key else Err error.UnknownCurve)

-- that text of a key, whose key type has to be `RSA`, `EC` or `OKP`
abbrev pub canonical : Data → KeyReading (List ℕ)
canonical key =
    key_then (needed_text member.KeyType key) (λ key_type.
    if bytes_eq key_type (codes "RSA") then rsa_canonical key
    else (if bytes_eq key_type (codes "EC") then elliptic_canonical key
    else (if bytes_eq key_type (codes "OKP") then octet_canonical key
    else Err error.UnknownType)))

-- 3: the SHA-256 digest of that text, in base64url
abbrev pub thumbprint : Data → KeyReading (List ℕ)
thumbprint key = key_then (canonical key) (λ text. Ok (base64url (sha256 text)))
