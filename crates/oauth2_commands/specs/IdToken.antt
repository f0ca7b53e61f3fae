-- The command `id_token`: an ID token is read, and its claims are checked (OpenID Connect Core 1.0,
-- 3.1.3.7).
use Rattle.std.specs.Prelude.{◌≡◌, ◌⊎◌, ℕ, List, [], ◌∷◌, ◌++◌, Option, Some, None, Result, Ok, Err, codes}
use Rattle.serde_json.specs.Data.{Data, string, object, no_members}
use Rattle.serde_json.specs.Written.{compact_text}
use Rattle.oauth2.specs.Settings.{Settings}
use Rattle.oauth2_json.specs.ErrorTexts.{parse_fault_text}
use Rattle.oauth2_json.specs.Puts.{put_all}
use Rattle.oauth2_json.specs.Reading.{Reading}
use Rattle.oauth2_keys.specs.Algorithm.{algorithm_named}
use Rattle.oauth2_keys.specs.ErrorTexts.{signature_error_text}
use Rattle.oauth2_keys.specs.KeySet.{set_reading}
use Rattle.oauth2_keys.specs.Verified.{IsVerified, IsRefusal}
use Rattle.oauth2_keys.specs.declared.algorithm.SignatureAlgorithm.{SignatureAlgorithm}
use Rattle.oauth2_keys.specs.declared.algorithm.SignatureAlgorithm.TheVariants.{Rs256}
use Rattle.oauth2_keys.specs.declared.json_web_key.ListedKey.{ListedKey}
use Rattle.oauth2_keys.specs.declared.signature_error.SignatureError.{SignatureError}
use Rattle.oauth2_openid.specs.Claims.{Claims, Expectation, NamedIssuers}
use Rattle.oauth2_openid.specs.Claims as named
use Rattle.oauth2_openid.specs.ErrorTexts.{claims_error_text, part_text}
use Rattle.oauth2_openid.specs.Reading.{compact_token_reading, id_token_rows}
use Rattle.oauth2_openid.specs.Token.{DecodedToken, TokenFault, TokenReading, too_long, not_three_parts, not_base64, at_fault}
use Rattle.oauth2_openid.specs.TokenRules.{token_checked}
use Rattle.oauth2_openid.specs.declared.access_token_hash.AccessTokenHash.{AccessTokenHash}
use Rattle.oauth2_openid.specs.declared.access_token_hash.AccessTokenHash.TheVariants.{Absent, Matches, NotChecked}
use Rattle.oauth2_openid.specs.declared.claims_error.ClaimsError.{ClaimsError}
use Rattle.oauth2_world.specs.Clock.{Clock, reading_of}
use Rattle.oauth2_world.specs.declared.event.FaultKind.TheVariants.{BadClaims, BadKeys, BadSignature, BadToken, UncheckedSignature}
use Rattle.oauth2_request_commands.specs.Out.{Output, success_output, failure_output}
use Rattle.oauth2_script.specs.IdTokenParams.{IdTokenParams, IssuerPart}
use Rattle.oauth2_script.specs.IdTokenParams as part

-- the issuers that a script expects, as the library takes them
abbrev pub issuers_of : IssuerPart → NamedIssuers
issuers_of (part.is issuer) = named.is issuer
issuers_of (part.one_of issuers) = named.one_of issuers
issuers_of (part.per_tenant before after) = named.per_tenant before after

-- what the client of a script expects of an ID token; `leeway` and `max_age` in nanoseconds
abbrev pub params_expectation : Settings → IdTokenParams → Expectation
params_expectation client p = record {
  issuer = issuers_of p.issuer;
  client = client.client_id;
  other_audiences = p.other_audiences;
  authorized_parties = p.authorized_parties;
  algorithm = p.algorithm;
  nonce = p.nonce;
  leeway = p.leeway;
  greatest_age = p.greatest_age;
}

-- ---- a token that passes the checks

-- the claims as a JSON object (OpenID Connect Core 1.0, 2); absent claims are left out
unfoldable pub claims_data : Claims → Data
claims_data c = object (put_all (id_token_rows c) no_members)

-- whether `at_hash` is the hash of the access token (OpenID Connect Core 1.0, 3.1.3.8), as a text
abbrev pub hash_name : AccessTokenHash → List ℕ
hash_name Absent = codes "absent"
hash_name Matches = codes "matches"
hash_name NotChecked = codes "not_checked"

-- the result of the check of the access token hash, and the claims, as a JSON object
unfoldable pub checked_data : AccessTokenHash → Claims → Data
checked_data hash c =
    object
    (put_all ((codes "access_token_hash", Some (string (hash_name hash))) ∷ (codes "claims", Some (claims_data c)) ∷ []) no_members)

-- the result of the check of the access token hash, and the claims, as compact JSON
unfoldable pub checked_json : AccessTokenHash → Claims → List ℕ
checked_json hash c = compact_text (checked_data hash c)

-- ---- the output of each case

-- why a text is not a token (RFC 7515, 7.1; OpenID Connect Core 1.0, 2)
abbrev pub token_fault_text : TokenFault → List ℕ
token_fault_text too_long = codes "too long"
token_fault_text not_three_parts = codes "not three parts"
token_fault_text (not_base64 part) = part_text part ++ codes ": not base64url"
token_fault_text (at_fault part fault) = part_text part ++ codes ": " ++ parse_fault_text fault

-- the algorithm of the signature: the registered one, or RS256 if none is (OpenID Connect Core 1.0,
-- 3.1.3.7, 7)
abbrev pub signature_algorithm : Option (List ℕ) → Option SignatureAlgorithm
signature_algorithm None = Some Rs256
signature_algorithm (Some name) = algorithm_named name

-- the output for an algorithm whose signatures are not checked
abbrev pub unchecked_output : Output
unchecked_output =
    failure_output UncheckedSignature (codes "no signature of the registered algorithm is checked")

-- the output of a token whose claims are good, by the keys of the issuer: `good` if the signature
-- is good, else why it is not (OpenID Connect Core 1.0, 3.1.3.7, 6)
abbrev pub IsVerifiedOutput : Reading (List ListedKey) → Option SignatureAlgorithm → DecodedToken
    → Output → Output → Type 0
IsVerifiedOutput (Err fault) algorithm token good o =
    o ≡ failure_output BadKeys (parse_fault_text fault)
IsVerifiedOutput (Ok keys) None token good o = o ≡ unchecked_output
IsVerifiedOutput (Ok keys) (Some algorithm) token good o =
    (IsVerified keys algorithm token × (o ≡ good))
    ⊎ ((error : SignatureError) × IsRefusal keys algorithm token error × (o ≡ failure_output BadSignature (signature_error_text error)))

-- the output for a token and the keys of the script, if it has any: without keys, no signature is
-- checked
abbrev pub IsSignedOutput : Option Data → Option SignatureAlgorithm → DecodedToken → Output → Output
    → Type 0
IsSignedOutput None algorithm token good o = o ≡ good
IsSignedOutput (Some keys) algorithm token good o =
    IsVerifiedOutput (set_reading keys) algorithm token good o

-- the output of a token by the checks of its claims: the first rule that is broken, or that of its
-- signature
abbrev pub IsCheckedOutput : Option Data → Option SignatureAlgorithm → DecodedToken
    → Result AccessTokenHash ClaimsError → Output → Type 0
IsCheckedOutput keys algorithm token (Ok hash) o =
    IsSignedOutput keys algorithm token (success_output (checked_json hash token.claims.own)) o
IsCheckedOutput keys algorithm token (Err broken) o =
    o ≡ failure_output BadClaims (claims_error_text broken)

-- the output of a text: that of its token, or why the text is not a token
abbrev pub IsReadOutput : {T : Type 0} → (T → Output → Type 0) → TokenReading T → Output → Type 0
IsReadOutput IsShown (Ok token) o = IsShown token o
IsReadOutput IsShown (Err fault) o = o ≡ failure_output BadToken (token_fault_text fault)

-- the output of `id_token`; the clock is read once for the moment of the checks
abbrev pub IsIdTokenOutput : Settings → IdTokenParams → Clock → Output → Type 0
IsIdTokenOutput client p clock o =
    IsReadOutput (λ token o. IsCheckedOutput p.keys (signature_algorithm p.algorithm) token
    (token_checked (params_expectation client p) p.access_token (reading_of clock) token) o) (compact_token_reading p.id_token) o
