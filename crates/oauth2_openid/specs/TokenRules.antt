-- The rules for the header and for the hash of the access token (OpenID Connect Core 1.0, 3.1.3.6
-- to 3.1.3.8; RFC 7515, 4.1.11; RFC 7797, 7; RFC 8725, 3.11), and all rules for a token together.
use Rattle.std.specs.Prelude.{◌≡◌, ◌≢◌, ℕ, ℤ, pos, ◌+ℤ◌, List, [], ◌∷◌, map, take, Bool, not, ◌||◌, if◌then◌else◌, Option, Some, None, is_some, option_and_then, IfSome, Result, Ok, Err, bytes_eq, codes}
use Rattle.std.specs.Char.{to_ascii_lowercase}
use Rattle.serde_json.specs.Data.{Data}
use Rattle.serde_json.specs.Find.{get, as_str}
use Rattle.sha2.specs.Sha256.{sha256}
use Rattle.sha2.specs.Sha512.{sha384, sha512}
use Rattle.oauth2_types.specs.Pkce.{base64url}
use Rattle.oauth2_openid.specs.declared.claims_error.ClaimsError.{ClaimsError}
use Rattle.oauth2_openid.specs.declared.claims_error.ClaimsError.TheVariants as errors
use Rattle.oauth2_openid.specs.declared.access_token_hash.AccessTokenHash.{AccessTokenHash}
use Rattle.oauth2_openid.specs.declared.access_token_hash.AccessTokenHash.TheVariants as hash
use Rattle.oauth2_openid.specs.Claims.{Expectation}
use Rattle.oauth2_openid.specs.Checks.{Verdict, rule, ◌then◌, is_among}
use Rattle.oauth2_openid.specs.Kinds.{takes_plain, is_encoded, has_started, NamesNoOther, IsEncoded, HasStarted}
use Rattle.oauth2_openid.specs.Rules.{claims_checked, ClaimsHold}
use Rattle.oauth2_openid.specs.Token.{Header, WithOthers, DecodedToken}

-- whether the algorithm means no signature: it is empty, or `none` in any case of letters
abbrev pub names_no_signature : List ℕ → Bool
names_no_signature algorithm =
    bytes_eq algorithm [] || bytes_eq (map to_ascii_lowercase algorithm) (codes "none")

-- 3.1.3.7, 7, and section 2: the algorithm is the registered one; if the client names none, it is
-- any that means a signature
abbrev pub algorithm_of : Option (List ℕ) → List ℕ → Verdict ClaimsError
algorithm_of None algorithm = rule (not (names_no_signature algorithm)) errors.NoSignature
algorithm_of (Some registered) algorithm =
    rule (bytes_eq algorithm registered) errors.OtherAlgorithm

-- 3.1.3.7, 7, and section 2: the header's `alg` is the registered algorithm; if the client names
-- none, it is any that means a signature
abbrev pub algorithm_rule : Expectation → Header → Verdict ClaimsError
algorithm_rule expected header = algorithm_of expected.algorithm header.algorithm

-- RFC 7515, 4.1.11: the header has no `crit`, which names extensions that have to be understood
abbrev pub critical_rule : WithOthers Header → Verdict ClaimsError
critical_rule header =
    rule (not (is_some (get (codes "crit") header.others))) errors.CriticalExtension

-- RFC 7797, 7: the header's `b64` does not say that the payload is not encoded
abbrev pub payload_rule : WithOthers Header → Verdict ClaimsError
payload_rule header = rule (is_encoded (get (codes "b64") header.others)) errors.UnencodedPayload

-- RFC 8725, 3.11 and 3.12: the header's `typ` names no other kind of token
abbrev pub type_rule : WithOthers Header → Verdict ClaimsError
type_rule header = rule (takes_plain (get (codes "typ") header.others)) errors.OtherType

-- RFC 7519, 4.1.5: the claim `nbf` is not after the moment `now` plus the leeway
abbrev pub start_rule : Expectation → ℤ → Data → Verdict ClaimsError
start_rule expected now other_claims =
    rule (has_started (now +ℤ pos expected.leeway) (get (codes "nbf") other_claims))
    errors.NotYetValid

-- the algorithms whose hash is SHA-256 (RFC 7518, 3.1; RFC 9864, 2.1)
abbrev pub sha256_algorithms : List (List ℕ)
sha256_algorithms =
    codes "RS256" ∷ codes "ES256" ∷ codes "PS256" ∷ codes "HS256" ∷ codes "ESP256" ∷ []

-- the algorithms whose hash is SHA-384 (RFC 7518, 3.1; RFC 9864, 2.1)
abbrev pub sha384_algorithms : List (List ℕ)
sha384_algorithms =
    codes "RS384" ∷ codes "ES384" ∷ codes "PS384" ∷ codes "HS384" ∷ codes "ESP384" ∷ []

-- the algorithms whose hash is SHA-512 (RFC 7518, 3.1; RFC 9864, 2.1), and EdDSA and Ed25519, as a
-- signature by Ed25519 hashes (RFC 8037, 3.1; RFC 9864, 2.2; RFC 8032, 5.1)
abbrev pub sha512_algorithms : List (List ℕ)
sha512_algorithms =
    codes "RS512" ∷ codes "ES512" ∷ codes "PS512" ∷ codes "HS512" ∷ codes "EdDSA" ∷ codes "ESP512" ∷ codes "Ed25519" ∷ []

-- the left half of the access token's digest by the algorithm's hash; none for other algorithms
abbrev pub half_digest : List ℕ → List ℕ → Option (List ℕ)
half_digest algorithm access_token =
    if is_among algorithm sha256_algorithms
    then Some (take 16 (sha256 access_token))
    else (if is_among algorithm sha384_algorithms
    then Some (take 24 (sha384 access_token))
    else (if is_among algorithm sha512_algorithms
    then Some (take 32 (sha512 access_token))
    else None))

-- 3.1.3.6: the hash in the ID token is that half in base64url; without a half it is not checked
abbrev pub told_hash : List ℕ → Option (List ℕ) → Result AccessTokenHash ClaimsError
told_hash told None = Ok hash.NotChecked
told_hash told (Some half) =
    if bytes_eq told (base64url half) then Ok hash.Matches else Err errors.OtherAccessToken

-- 3.1.3.8: the claim `at_hash`, if the token has it, is the hash of the access token
abbrev pub hash_rule : List ℕ → List ℕ → Option (List ℕ) → Result AccessTokenHash ClaimsError
hash_rule algorithm access_token None = Ok hash.Absent
hash_rule algorithm access_token (Some told) = told_hash told (half_digest algorithm access_token)

-- the tenant that a token names in its claim `tid`, as those of Microsoft Entra do
abbrev pub tenant_of : Data → Option (List ℕ)
tenant_of other_claims = option_and_then as_str (get (codes "tid") other_claims)

-- the rules for the header, in this order: the first broken rule is the error
abbrev pub header_checked : Expectation → WithOthers Header → Verdict ClaimsError
header_checked expected header =
    algorithm_rule expected header.own
    then critical_rule header
    then payload_rule header
    then type_rule header

-- all rules except that for the hash, in this order: the first broken rule is the error
abbrev pub rules_checked : Expectation → ℤ → DecodedToken → Verdict ClaimsError
rules_checked expected now token =
    header_checked expected token.header
    then claims_checked expected now (tenant_of token.claims.others) token.claims.own
    then start_rule expected now token.claims.others

-- all rules for a token, in this order: the first broken rule is the error
abbrev pub token_checked : Expectation → List ℕ → ℤ → DecodedToken
    → Result AccessTokenHash ClaimsError
token_checked expected access_token now token =
    rules_checked expected now token
    then hash_rule token.header.own.algorithm access_token token.claims.own.access_token_hash

-- ---- the rules as one proposition: all of them hold

-- the algorithm is the registered one; if the client names none, it is any that means a signature
abbrev pub IsAlgorithm : Option (List ℕ) → List ℕ → Type 0
IsAlgorithm None algorithm = (algorithm ≢ []) × (map to_ascii_lowercase algorithm ≢ codes "none")
IsAlgorithm (Some registered) algorithm = algorithm ≡ registered

-- the claim `at_hash`, if present, is the hash of the access token, if the algorithm has a hash
abbrev pub IsHashOf : List ℕ → List ℕ → Option (List ℕ) → Type 0
IsHashOf algorithm access_token told =
    IfSome told
    (λ hash. IfSome (half_digest algorithm access_token) (λ half. hash ≡ base64url half))

-- the token meets 3.1.3.7, and the rules for the kinds of JSON Web Tokens, except for its signature
-- and its `at_hash`, for a client that expects this, at the moment `now` (nanoseconds since
-- 1970-01-01T00:00:00Z)
pub record RulesHold (expected : Expectation) (now : ℤ) (token : DecodedToken) : Type 0 where
  pub algorithm : IsAlgorithm expected.algorithm token.header.own.algorithm
  pub no_extension : get (codes "crit") token.header.others ≡ None
  pub encoded : IsEncoded (get (codes "b64") token.header.others)
  pub token_type : NamesNoOther (get (codes "typ") token.header.others)
  pub claims : ClaimsHold expected now (tenant_of token.claims.others) token.claims.own
  pub started : HasStarted (now +ℤ pos expected.leeway) (get (codes "nbf") token.claims.others)

-- the token meets these rules and 3.1.3.8, for a client that expects this and got this access token
pub record Holds (expected : Expectation) (access_token : List ℕ) (now : ℤ) (token : DecodedToken) : Type 0 where
  pub rules : RulesHold expected now token
  pub hash : IsHashOf token.header.own.algorithm access_token token.claims.own.access_token_hash
