-- The text of an assertion that a client signs with its secret (OpenID Connect Core 1.0, 9).
use Rattle.std.specs.Prelude.{ℕ, ◌/◌, ℤ, pos, negsuc, List, ◌++◌, codes, Option, Some, None}
use Rattle.hash_functions.specs.declared.hash_function.HashFunction.TheVariants.{Sha256}
use Rattle.hmac_signatures.specs.Hmac.{hmac}
use Rattle.serde_json.specs.Data.{Data, unsigned, number, string, object, member, no_members}
use Rattle.serde_json.specs.Written.{compact_text}
use Rattle.oauth2_types.specs.Pkce.{base64url}

-- the whole seconds since 1970-01-01T00:00:00Z of a time in nanoseconds since then (`NumericDate` of
-- RFC 7519, 2); none before that
abbrev pub second_since_1970 : ℤ → Option ℕ
second_since_1970 (pos n) = Some (n / 1_000_000_000)
second_since_1970 (negsuc n) = None

-- the claims (RFC 7523, 3): the client is the issuer and the subject
abbrev pub claims_data : List ℕ → List ℕ → List ℕ → ℕ → ℕ → Data
claims_data client_id audience identifier issued_at expires_at =
    object (
    member (codes "aud") (string audience) (
    member (codes "exp") (number (unsigned expires_at)) (
    member (codes "iat") (number (unsigned issued_at)) (
    member (codes "iss") (string client_id) (
    member (codes "jti") (string identifier) (
    member (codes "sub") (string client_id) no_members))))))

-- the claims as a JSON text without white space
unfoldable pub claims_text : List ℕ → List ℕ → List ℕ → ℕ → ℕ → List ℕ
claims_text client_id audience identifier issued_at expires_at =
    compact_text (claims_data client_id audience identifier issued_at expires_at)

-- the header: HMAC with SHA-256 (RFC 7518, 3.1), of a JWT (RFC 7519, 5.1)
abbrev pub header_text : List ℕ
header_text = codes "{\"alg\":\"HS256\",\"typ\":\"JWT\"}"

-- what is signed: the header and the claims in base64url, with a dot between them (RFC 7515, 5.1)
abbrev pub signing_input : List ℕ → List ℕ
signing_input claims = base64url header_text ++ codes "." ++ base64url claims

-- the code of a message, whose key is the bytes of the secret (RFC 7518, 3.2)
unfoldable pub hs256_code : List ℕ → List ℕ → List ℕ
hs256_code secret message = hmac Sha256 secret message

-- the token: what is signed, a dot, and its code in base64url (RFC 7515, 7.1)
abbrev pub signed_jwt : List ℕ → List ℕ → List ℕ
signed_jwt secret claims =
    signing_input claims ++ codes "." ++ base64url (hs256_code secret (signing_input claims))
