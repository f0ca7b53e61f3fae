-- What a resource server expects of a JWT access token, and the rules for one (RFC 9068, 4). They
-- are tried in the order of this file, and the first broken rule is the fault.
use Rattle.std.specs.Prelude.{◌≡◌, ◌⊎◌, ℕ, ℤ, pos, ◌+ℤ◌, ◌<ℤ◌, ◌≤ℤ◌, int_lt, int_le, List, map, Contains, Bool, false, not, ◌||◌, Option, Some, None, is_some, option_and_then, IfSome, IsSomeAnd, Ok, Err, bytes_eq, codes}
use Rattle.std.specs.Char.{to_ascii_lowercase}
use Rattle.serde_json.specs.Data.{Data}
use Rattle.serde_json.specs.Find.{get, as_str}
use Rattle.oauth2_openid.specs.Checks.{Verdict, rule, ◌then◌, is_among}
use Rattle.oauth2_openid.specs.Kinds.{is_encoded, IsEncoded}
use Rattle.oauth2_openid.specs.Token.{DecodedToken}
use Rattle.oauth2_keys.specs.declared.algorithm.SignatureAlgorithm.{SignatureAlgorithm}
use Rattle.oauth2_keys.specs.declared.json_web_key.ListedKey.{ListedKey}
use Rattle.oauth2_keys.specs.Algorithm.{algorithm_name}
use Rattle.oauth2_keys.specs.Verified.{IsRefusal, IsVerified}
use Rattle.oauth2_signed_tokens.specs.declared.access_tokens.expected.SenderConstraint.{SenderConstraint}
use Rattle.oauth2_signed_tokens.specs.declared.access_tokens.expected.SenderConstraint.TheVariants.{NoKeyProven}
use Rattle.oauth2_signed_tokens.specs.declared.access_tokens.fault.AccessTokenFault.{AccessTokenFault}
use Rattle.oauth2_signed_tokens.specs.declared.access_tokens.fault.AccessTokenFault.TheVariants as fault
use Rattle.oauth2_signed_tokens.specs.access_tokens.AccessToken.{AccessToken}

-- what a resource server expects of an access token; the leeway is in nanoseconds
pub record Expectation : Type 0 where
  pub issuer : List ℕ
  pub audience : List ℕ
  pub algorithm : SignatureAlgorithm
  pub constraint : SenderConstraint
  pub leeway : ℕ

-- whether a type is that of an access token: `at+jwt` or `application/at+jwt`, in any case of
-- letters (RFC 9068, 2.1 and 4; RFC 7515, 4.1.9)
abbrev pub names_access_token : Option (List ℕ) → Bool
names_access_token None = false
names_access_token (Some typ) =
    bytes_eq (map to_ascii_lowercase typ) (codes "at+jwt")
    || bytes_eq (map to_ascii_lowercase typ) (codes "application/at+jwt")

-- the type (`typ`) in the header, if it is a string (RFC 7515, 4.1.9)
abbrev pub type_of : DecodedToken → Option (List ℕ)
type_of token = option_and_then as_str (get (codes "typ") token.header.others)

-- RFC 9068, 4: the type in the header is that of an access token
abbrev pub type_rule : DecodedToken → Verdict AccessTokenFault
type_rule token = rule (names_access_token (type_of token)) fault.OtherType

-- RFC 9068, 4: the algorithm is the expected one, which is never `none`
abbrev pub algorithm_rule : Expectation → DecodedToken → Verdict AccessTokenFault
algorithm_rule expected token =
    rule (bytes_eq token.header.own.algorithm (algorithm_name expected.algorithm))
    fault.OtherAlgorithm

-- RFC 7515, 4.1.11: the header has no `crit`, which names extensions that have to be understood
abbrev pub critical_rule : DecodedToken → Verdict AccessTokenFault
critical_rule token =
    rule (not (is_some (get (codes "crit") token.header.others))) fault.CriticalExtension

-- RFC 7797, 7: the header's `b64` does not say that the payload is not encoded
abbrev pub payload_rule : DecodedToken → Verdict AccessTokenFault
payload_rule token =
    rule (is_encoded (get (codes "b64") token.header.others)) fault.UnencodedPayload

-- RFC 9068, 4: the claim `iss` is the expected issuer, byte for byte
abbrev pub issuer_rule : Expectation → DecodedToken → Verdict AccessTokenFault
issuer_rule expected token =
    rule (bytes_eq token.claims.own.issuer expected.issuer) fault.OtherIssuer

-- RFC 9068, 4: the resource server is one of the audiences (`aud`), byte for byte
abbrev pub audience_rule : Expectation → DecodedToken → Verdict AccessTokenFault
audience_rule expected token =
    rule (is_among expected.audience token.claims.own.audience) fault.OtherAudience

-- RFC 9068, 4: the moment `now` is before the expiry (`exp`) plus the leeway
abbrev pub expiry_rule : Expectation → ℤ → DecodedToken → Verdict AccessTokenFault
expiry_rule expected now token =
    rule (int_lt now (token.claims.own.expires_at +ℤ pos expected.leeway)) fault.Expired

-- RFC 7519, 4.1.5: the moment before which the token must not be accepted, if it has one, is not
-- after the moment `now` plus the leeway
abbrev pub start_of : ℕ → ℤ → Option ℤ → Verdict AccessTokenFault
start_of leeway now None = Ok tt
start_of leeway now (Some start) = rule (int_le start (now +ℤ pos leeway)) fault.NotYetValid

-- RFC 7519, 4.1.5: if there is a claim `nbf`, the moment `now` plus the expected leeway is not
-- before it
abbrev pub start_rule : Expectation → ℤ → AccessToken → Verdict AccessTokenFault
start_rule expected now t = start_of expected.leeway now t.own.not_before

-- RFC 8705, 3.2, and RFC 9449, 6.1: whether what a request proved of a key suffices for a token that
-- is bound to one, or for one that is not
abbrev pub suffices : SenderConstraint → Bool → Bool
suffices NoKeyProven is_bound = not is_bound

-- RFC 7800, 3.1: the token is bound to a key if it has the claim `cnf`, even one that is null; then
-- the request proved that its sender has the key
abbrev pub sender_rule : Expectation → DecodedToken → Verdict AccessTokenFault
sender_rule expected token =
    rule (suffices expected.constraint (is_some (get (codes "cnf") token.claims.others)))
    fault.SenderConstrained

-- all rules except that of the signature, in this order: the first broken rule is the fault
abbrev pub access_token_checked : Expectation → ℤ → AccessToken → Verdict AccessTokenFault
access_token_checked expected now t =
    type_rule t.token
    then algorithm_rule expected t.token
    then critical_rule t.token
    then payload_rule t.token
    then issuer_rule expected t.token
    then audience_rule expected t.token
    then expiry_rule expected now t.token
    then start_rule expected now t
    then sender_rule expected t.token

-- the fault is one of the signature, and says why it is refused
abbrev pub IsSignatureFault : List ListedKey → SignatureAlgorithm → DecodedToken → AccessTokenFault
    → Type 0
IsSignatureFault keys algorithm token (fault.Signature error) = IsRefusal keys algorithm token error
IsSignatureFault keys algorithm token other = ⊥

-- the fault is that of the first broken rule, or that of the signature if no other rule is broken
abbrev pub FaultsBy : Verdict AccessTokenFault → List ListedKey → SignatureAlgorithm → DecodedToken
    → AccessTokenFault → Type 0
FaultsBy (Ok u) keys algorithm token named = IsSignatureFault keys algorithm token named
FaultsBy (Err first) keys algorithm token named = named ≡ first

-- the fault is that of the first broken rule for this access token; the signature comes last
abbrev pub IsFirstFault : Expectation → List ListedKey → ℤ → AccessToken → AccessTokenFault → Type 0
IsFirstFault expected keys now t named =
    FaultsBy (access_token_checked expected now t) keys expected.algorithm t.token named

-- ---- the rules as one proposition: all of them hold

-- the type is `at+jwt` or `application/at+jwt`, in any case of letters (RFC 9068, 4)
abbrev pub IsAccessTokenType : List ℕ → Type 0
IsAccessTokenType typ =
    (map to_ascii_lowercase typ ≡ codes "at+jwt")
    ⊎ (map to_ascii_lowercase typ ≡ codes "application/at+jwt")

-- what a request proved of a key suffices for a token with this claim `cnf`, or with none: if it
-- proved none, the token has none
abbrev pub Suffices : SenderConstraint → Option Data → Type 0
Suffices NoKeyProven cnf = cnf ≡ None

-- the token meets RFC 9068, 4, for a resource server that expects this and has these keys of the
-- issuer, at the moment `now` (nanoseconds since 1970-01-01T00:00:00Z)
pub record AccessTokenHolds (expected : Expectation) (keys : List ListedKey) (now : ℤ) (t : AccessToken) : Type 0 where
  pub token_type : IsSomeAnd (type_of t.token) IsAccessTokenType
  pub no_extension : get (codes "crit") t.token.header.others ≡ None
  pub encoded : IsEncoded (get (codes "b64") t.token.header.others)
  pub issuer : t.token.claims.own.issuer ≡ expected.issuer
  pub audience : Contains t.token.claims.own.audience expected.audience
  pub not_expired : now <ℤ (t.token.claims.own.expires_at +ℤ pos expected.leeway)
  pub started : IfSome t.own.not_before (λ start. start ≤ℤ (now +ℤ pos expected.leeway))
  pub sender : Suffices expected.constraint (get (codes "cnf") t.token.claims.others)
  pub signature : IsVerified keys expected.algorithm t.token
