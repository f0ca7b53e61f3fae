-- What a client expects of a logout token, and the rules for one (OpenID Connect Back-Channel Logout
-- 1.0, 2.6). They are tried in the order of this file, and the first broken rule is the fault.
use Rattle.std.specs.Prelude.{◌≡◌, ◌≢◌, ◌⊎◌, ℕ, ℤ, pos, ◌+ℤ◌, ◌<ℤ◌, ◌≤ℤ◌, int_lt, int_le, List, [], ◌∷◌, map, All, Contains, Bool, true, false, not, ◌||◌, Option, Some, None, is_some, option_and_then, IfSome, IsSome, IsSomeAnd, Ok, Err, bytes_eq, codes}
use Rattle.std.specs.Char.{to_ascii_lowercase}
use Rattle.serde_json.specs.Data.{Data}
use Rattle.serde_json.specs.Find.{get, as_object, as_str}
use Rattle.oauth2_openid.specs.Checks.{Verdict, rule, ◌then◌, is_among, are_among}
use Rattle.oauth2_openid.specs.Claims.{NamedIssuers}
use Rattle.oauth2_openid.specs.Kinds.{names_plain, is_encoded, has_started, IsPlainType, IsEncoded, HasStarted}
use Rattle.oauth2_openid.specs.Rules.{is_issuer, IsIssuer}
use Rattle.oauth2_openid.specs.Token.{DecodedToken}
use Rattle.oauth2_openid.specs.TokenRules.{tenant_of}
use Rattle.oauth2_keys.specs.Signature.{Check, registered_algorithm, IsSigned, IsSignatureRefusal}
use Rattle.oauth2_signed_tokens.specs.declared.logout_tokens.type_rule.TypeRule.{TypeRule}
use Rattle.oauth2_signed_tokens.specs.declared.logout_tokens.type_rule.TypeRule.TheVariants.{OnlyLogout, LogoutOrPlain}
use Rattle.oauth2_signed_tokens.specs.declared.logout_tokens.fault.LogoutTokenFault.{LogoutTokenFault}
use Rattle.oauth2_signed_tokens.specs.declared.logout_tokens.fault.LogoutTokenFault.TheVariants as fault
use Rattle.oauth2_signed_tokens.specs.logout_tokens.LogoutToken.{LogoutClaims, DecodedLogoutToken, as_id_token}

-- what a client expects of a logout token; the leeway is in nanoseconds
pub record Expectation : Type 0 where
  pub issuer : NamedIssuers
  pub client : List ℕ
  pub other_audiences : List (List ℕ)
  pub type_rule : TypeRule
  pub leeway : ℕ

-- whether a type is that of a logout token: `logout+jwt` or `application/logout+jwt`, in any case of
-- letters (2.4; RFC 7515, 4.1.9)
abbrev pub names_logout : List ℕ → Bool
names_logout typ =
    bytes_eq (map to_ascii_lowercase typ) (codes "logout+jwt")
    || bytes_eq (map to_ascii_lowercase typ) (codes "application/logout+jwt")

-- 2.4: whether the rule takes a token with this type: it is RECOMMENDED that the type is that of a
-- logout token, and many tokens have the type of any JSON Web Token
abbrev pub takes_named : TypeRule → List ℕ → Bool
takes_named OnlyLogout typ = names_logout typ
takes_named LogoutOrPlain typ = names_logout typ || names_plain typ

-- 2.4: whether the rule takes a token without a type
abbrev pub takes_untyped : TypeRule → Bool
takes_untyped OnlyLogout = false
takes_untyped LogoutOrPlain = true

-- 2.4: whether the rule takes a token with this type; a type has to be a string (RFC 7515, 4.1.9)
abbrev pub takes_string : TypeRule → Option (List ℕ) → Bool
takes_string types None = false
takes_string types (Some typ) = takes_named types typ

-- 2.4: whether the rule takes a token with this member `typ` of the header, or with none
abbrev pub takes_type : TypeRule → Option Data → Bool
takes_type types None = takes_untyped types
takes_type types (Some typ) = takes_string types (as_str typ)

-- 2.4: the type (`typ`) in the header is one that the client takes
abbrev pub type_rule : Expectation → DecodedLogoutToken → Verdict LogoutTokenFault
type_rule expected t =
    rule (takes_type expected.type_rule (get (codes "typ") t.header.others)) fault.OtherType

-- 2.6, 3: the algorithm is the registered one, which is never `none`
abbrev pub algorithm_rule : Check → DecodedLogoutToken → Verdict LogoutTokenFault
algorithm_rule check t =
    rule (bytes_eq t.header.own.algorithm (registered_algorithm check)) fault.OtherAlgorithm

-- RFC 7515, 4.1.11: the header has no `crit`, which names extensions that have to be understood
abbrev pub critical_rule : DecodedLogoutToken → Verdict LogoutTokenFault
critical_rule t = rule (not (is_some (get (codes "crit") t.header.others))) fault.CriticalExtension

-- RFC 7797, 7: the header's `b64` does not say that the payload is not encoded
abbrev pub payload_rule : DecodedLogoutToken → Verdict LogoutTokenFault
payload_rule t = rule (is_encoded (get (codes "b64") t.header.others)) fault.UnencodedPayload

-- 2.6, 4: the claim `iss` is an expected issuer, byte for byte, for a token that names its tenant in
-- the claim `tid`, or names none (OpenID Connect Core 1.0, 3.1.3.7, 2)
abbrev pub issuer_rule : Expectation → DecodedLogoutToken → Verdict LogoutTokenFault
issuer_rule expected t =
    rule (is_issuer expected.issuer (tenant_of t.claims.others) t.claims.own.issuer)
    fault.OtherIssuer

-- 2.6, 4: the client is one of the audiences, byte for byte (OpenID Connect Core 1.0, 3.1.3.7, 3)
abbrev pub audience_rule : Expectation → DecodedLogoutToken → Verdict LogoutTokenFault
audience_rule expected t = rule (is_among expected.client t.claims.own.audience) fault.OtherAudience

-- 2.6, 4: each audience is the client or one that it trusts (OpenID Connect Core 1.0, 3.1.3.7, 3)
abbrev pub trust_rule : Expectation → DecodedLogoutToken → Verdict LogoutTokenFault
trust_rule expected t =
    rule (are_among t.claims.own.audience (expected.client ∷ expected.other_audiences))
    fault.UntrustedAudience

-- 2.6, 4: the moment `now` is before the expiry plus the leeway (OpenID Connect Core 1.0, 3.1.3.7, 9)
abbrev pub expiry_rule : Expectation → ℤ → DecodedLogoutToken → Verdict LogoutTokenFault
expiry_rule expected now t =
    rule (int_lt now (t.claims.own.expires_at +ℤ pos expected.leeway)) fault.Expired

-- 2.6, 4: the token was not issued after the moment `now` plus the leeway (OpenID Connect Core 1.0,
-- 3.1.3.7, 10)
abbrev pub issued_rule : Expectation → ℤ → DecodedLogoutToken → Verdict LogoutTokenFault
issued_rule expected now t =
    rule (int_le t.claims.own.issued_at (now +ℤ pos expected.leeway)) fault.IssuedLater

-- RFC 7519, 4.1.5: the claim `nbf` is not after the moment `now` plus the leeway
abbrev pub start_rule : Expectation → ℤ → DecodedLogoutToken → Verdict LogoutTokenFault
start_rule expected now t =
    rule (has_started (now +ℤ pos expected.leeway) (get (codes "nbf") t.claims.others))
    fault.NotYetValid

-- 2.6, 5: the token has the claim `sub`, the claim `sid`, or both
abbrev pub session_rule : DecodedLogoutToken → Verdict LogoutTokenFault
session_rule t =
    rule (is_some t.claims.own.subject || is_some t.claims.own.session_id) fault.NoSession

-- whether a text is there and empty
abbrev pub is_empty_text : Option (List ℕ) → Bool
is_empty_text None = false
is_empty_text (Some text) = bytes_eq text []

-- 2.4: `sub`, `sid` and `jti` identify something, so none of them is an empty text
abbrev pub identifier_rule : DecodedLogoutToken → Verdict LogoutTokenFault
identifier_rule t =
    let own = t.claims.own in
    rule (not (is_empty_text own.subject || is_empty_text own.session_id || bytes_eq own.token_id []))
    fault.EmptyIdentifier

-- 2.4: the name that declares that a JSON Web Token is a logout token
abbrev pub logout_event : List ℕ
logout_event = codes "http://schemas.openid.net/event/backchannel-logout"

-- 2.4: what the claim `events` tells of the logout, if it is an object that has the member
abbrev pub told_event : Data → Option Data
told_event other_claims = option_and_then (get logout_event) (get (codes "events") other_claims)

-- 2.6, 6, and 2.4: the claim `events` is an object that has the member, and the member is an object
abbrev pub event_rule : DecodedLogoutToken → Verdict LogoutTokenFault
event_rule t =
    rule (is_some (option_and_then as_object (told_event t.claims.others))) fault.NoLogoutEvent

-- 2.6, 7: the token has no claim `nonce`, not even one that is null
abbrev pub nonce_rule : DecodedLogoutToken → Verdict LogoutTokenFault
nonce_rule t = rule (not (is_some (get (codes "nonce") t.claims.others))) fault.HasNonce

-- the rules for the header, in this order: the first broken rule is the fault
abbrev pub header_checked : Expectation → Check → DecodedLogoutToken → Verdict LogoutTokenFault
header_checked expected check t =
    type_rule expected t
    then algorithm_rule check t
    then critical_rule t
    then payload_rule t

-- the rules for the claims of any token, in this order: the first broken rule is the fault
abbrev pub claims_checked : Expectation → ℤ → DecodedLogoutToken → Verdict LogoutTokenFault
claims_checked expected now t =
    issuer_rule expected t
    then audience_rule expected t
    then trust_rule expected t
    then expiry_rule expected now t
    then issued_rule expected now t
    then start_rule expected now t

-- the rules for what is told to be logged out, in this order: the first broken rule is the fault
abbrev pub logout_checked : DecodedLogoutToken → Verdict LogoutTokenFault
logout_checked t = session_rule t then identifier_rule t then event_rule t then nonce_rule t

-- all rules except that of the signature, in this order: the first broken rule is the fault
abbrev pub logout_token_checked : Expectation → Check → ℤ → DecodedLogoutToken
    → Verdict LogoutTokenFault
logout_token_checked expected check now t =
    header_checked expected check t then claims_checked expected now t then logout_checked t

-- the fault is one of the signature, and says why it is refused
abbrev pub IsSignatureFault : Check → DecodedToken → LogoutTokenFault → Type 0
IsSignatureFault check token (fault.Signature error) = IsSignatureRefusal check token error
IsSignatureFault check token other = ⊥

-- the fault is that of the first broken rule, or that of the signature if no other rule is broken
abbrev pub FaultsBy : Verdict LogoutTokenFault → Check → DecodedToken → LogoutTokenFault → Type 0
FaultsBy (Ok u) check token named = IsSignatureFault check token named
FaultsBy (Err first) check token named = named ≡ first

-- the fault is that of the first broken rule for this logout token; the signature comes last
abbrev pub IsFirstFault : Expectation → Check → ℤ → DecodedLogoutToken → LogoutTokenFault → Type 0
IsFirstFault expected check now t named =
    FaultsBy (logout_token_checked expected check now t) check (as_id_token t) named

-- ---- the rules as one proposition: all of them hold

-- the type is `logout+jwt` or `application/logout+jwt`, in any case of letters (2.4)
abbrev pub IsLogoutType : List ℕ → Type 0
IsLogoutType typ =
    (map to_ascii_lowercase typ ≡ codes "logout+jwt")
    ⊎ (map to_ascii_lowercase typ ≡ codes "application/logout+jwt")

-- the header's `typ` is one that the rule takes: that of a logout token; or, if the rule says so,
-- also that of any JSON Web Token, or none
abbrev pub IsTaken : TypeRule → Option Data → Type 0
IsTaken OnlyLogout typ = IsSomeAnd typ (λ d. IsSomeAnd (as_str d) IsLogoutType)
IsTaken LogoutOrPlain typ =
    IfSome typ (λ d. IsSomeAnd (as_str d) (λ s. IsLogoutType s ⊎ IsPlainType s))

-- the claims `sub` and `sid`, if they are there, and the claim `jti` are not empty
pub record AreFilled (claims : LogoutClaims) : Type 0 where
  pub subject : claims.subject ≢ Some []
  pub session_id : claims.session_id ≢ Some []
  pub token_id : claims.token_id ≢ []

-- the token meets 2.6 for a client that expects this and checks signatures so, by the issuer's keys or
-- by its own secret, at the moment `now` (nanoseconds since 1970-01-01T00:00:00Z)
pub record LogoutTokenHolds (expected : Expectation) (check : Check) (now : ℤ) (t : DecodedLogoutToken) : Type 0 where
  pub token_type : IsTaken expected.type_rule (get (codes "typ") t.header.others)
  pub no_extension : get (codes "crit") t.header.others ≡ None
  pub encoded : IsEncoded (get (codes "b64") t.header.others)
  pub issuer : IsIssuer expected.issuer (tenant_of t.claims.others) t.claims.own.issuer
  pub audience : Contains t.claims.own.audience expected.client
  pub trusted : All (Contains (expected.client ∷ expected.other_audiences)) t.claims.own.audience
  pub not_expired : now <ℤ (t.claims.own.expires_at +ℤ pos expected.leeway)
  pub issued : t.claims.own.issued_at ≤ℤ (now +ℤ pos expected.leeway)
  pub started : HasStarted (now +ℤ pos expected.leeway) (get (codes "nbf") t.claims.others)
  pub session : IsSome t.claims.own.subject ⊎ IsSome t.claims.own.session_id
  pub identifiers : AreFilled t.claims.own
  pub event : IsSome (option_and_then as_object (told_event t.claims.others))
  pub no_nonce : get (codes "nonce") t.claims.others ≡ None
  pub signature : IsSigned check (as_id_token t)
