-- The rules for the claims of an ID token (OpenID Connect Core 1.0, 3.1.3.7). They are tried in the
-- order of this file, and the first broken rule is the error.
use Rattle.std.specs.Prelude.{◌≡◌, ◌≢◌, ℕ, ℤ, pos, ◌+ℤ◌, ◌<ℤ◌, ◌≤ℤ◌, ◌<◌, int_lt, int_le, nat_le, List, [], ◌∷◌, ◌++◌, length, All, Contains, Bool, false, not, Option, Some, None, IfSome, IsSome, IsSomeAnd, option_map, Ok, Err, bytes_eq}
use Rattle.sha2.specs.Sha256.{sha256}
use Rattle.oauth2_types.specs.Digest.{digest_eq}
use Rattle.oauth2_openid.specs.declared.claims_error.ClaimsError.{ClaimsError}
use Rattle.oauth2_openid.specs.declared.claims_error.ClaimsError.TheVariants as errors
use Rattle.oauth2_openid.specs.Checks.{Verdict, rule, ◌then◌, is_among, are_among}
use Rattle.oauth2_openid.specs.Claims.{Claims, Expectation, NamedIssuers, is, one_of, per_tenant}

-- 3.1.3.7, 2: the issuer is an expected one, byte for byte
abbrev pub is_issuer : NamedIssuers → Option (List ℕ) → List ℕ → Bool
is_issuer (is named) tenant issuer = bytes_eq issuer named
is_issuer (one_of named) tenant issuer = is_among issuer named
is_issuer (per_tenant before after) None issuer = false
is_issuer (per_tenant before after) (Some tenant) issuer =
    bytes_eq issuer (before ++ tenant ++ after)

-- 3.1.3.7, 2: the claim `iss` is an expected issuer, for a token that names this tenant
abbrev pub issuer_rule : Expectation → Option (List ℕ) → Claims → Verdict ClaimsError
issuer_rule expected tenant claims =
    rule (is_issuer expected.issuer tenant claims.issuer) errors.OtherIssuer

-- section 2: the claim `sub` names a user, so it is not empty
abbrev pub subject_rule : Claims → Verdict ClaimsError
subject_rule claims = rule (not (bytes_eq claims.subject [])) errors.NoSubject

-- 3.1.3.7, 3: the client is one of the audiences
abbrev pub audience_rule : Expectation → Claims → Verdict ClaimsError
audience_rule expected claims = rule (is_among expected.client claims.audience) errors.OtherAudience

-- 3.1.3.7, 3: each audience is the client or one that it trusts
abbrev pub trust_rule : Expectation → Claims → Verdict ClaimsError
trust_rule expected claims =
    rule (are_among claims.audience (expected.client ∷ expected.other_audiences))
    errors.UntrustedAudience

-- 3.1.3.7, 4 and 5: a token with several audiences has an authorized party, and an authorized party
-- is one of `parties`
abbrev pub party_of : List (List ℕ) → List (List ℕ) → Option (List ℕ) → Verdict ClaimsError
party_of parties audience None = rule (nat_le (length audience) 1) errors.NoAuthorizedParty
party_of parties audience (Some party) = rule (is_among party parties) errors.OtherAuthorizedParty

-- 3.1.3.7, 4 and 5: the rule above for the claim `azp`; the parties are the client and those that the
-- expectation names
abbrev pub party_rule : Expectation → Claims → Verdict ClaimsError
party_rule expected claims =
    party_of (expected.client ∷ expected.authorized_parties) claims.audience claims.authorized_party

-- 3.1.3.7, 9: the moment `now` is before the expiry plus the leeway
abbrev pub expiry_rule : Expectation → ℤ → Claims → Verdict ClaimsError
expiry_rule expected now claims =
    rule (int_lt now (claims.expires_at +ℤ pos expected.leeway)) errors.Expired

-- 3.1.3.7, 10: the token was not issued after the moment `now` plus the leeway
abbrev pub issued_rule : Expectation → ℤ → Claims → Verdict ClaimsError
issued_rule expected now claims =
    rule (int_le claims.issued_at (now +ℤ pos expected.leeway)) errors.IssuedLater

-- 3.1.3.7, 11, and section 2: the token has a nonce exactly if one was sent, and both have the same
-- SHA-256 digest
abbrev pub nonce_of : Option (List ℕ) → Option (List ℕ) → Verdict ClaimsError
nonce_of None None = Ok tt
nonce_of None (Some told) = Err errors.NonceNotSent
nonce_of (Some sent) None = Err errors.NoNonce
nonce_of (Some sent) (Some told) = rule (digest_eq told sent) errors.OtherNonce

-- 3.1.3.7, 11, and section 2: the claim `nonce` is there exactly if a nonce was sent, and is equal
-- to it
abbrev pub nonce_rule : Expectation → Claims → Verdict ClaimsError
nonce_rule expected claims = nonce_of expected.nonce claims.nonce

-- 3.1.3.7, 13, and section 2: if a maximum age was sent, the token says when the user logged in,
-- that is not after the moment `now` plus the leeway, and `now` is not later than that plus the age
-- and the leeway
abbrev pub age_of : ℕ → ℤ → Option ℕ → Option ℤ → Verdict ClaimsError
age_of leeway now None auth_time = Ok tt
age_of leeway now (Some greatest_age) None = Err errors.NoAuthTime
age_of leeway now (Some greatest_age) (Some auth_time) =
    rule (int_le auth_time (now +ℤ pos leeway)) errors.AuthLater
    then rule (int_le now (auth_time +ℤ pos greatest_age +ℤ pos leeway)) errors.AuthTooOld

-- 3.1.3.7, 13, and section 2: if `max_age` was sent, the claim `auth_time` says when the user
-- logged in, and that is neither in the future nor longer ago than `max_age`, by the leeway
abbrev pub age_rule : Expectation → ℤ → Claims → Verdict ClaimsError
age_rule expected now claims = age_of expected.leeway now expected.greatest_age claims.auth_time

-- all rules for the claims, in this order: the first broken rule is the error
abbrev pub claims_checked : Expectation → ℤ → Option (List ℕ) → Claims → Verdict ClaimsError
claims_checked expected now tenant claims =
    issuer_rule expected tenant claims
    then subject_rule claims
    then audience_rule expected claims
    then trust_rule expected claims
    then party_rule expected claims
    then expiry_rule expected now claims
    then issued_rule expected now claims
    then nonce_rule expected claims
    then age_rule expected now claims

-- ---- the rules as one proposition: all of them hold

-- the issuer is the expected one, or one of several, or the expected one of the token's own tenant
abbrev pub IsIssuer : NamedIssuers → Option (List ℕ) → List ℕ → Type 0
IsIssuer (is named) tenant issuer = issuer ≡ named
IsIssuer (one_of named) tenant issuer = Contains named issuer
IsIssuer (per_tenant before after) tenant issuer =
    IsSomeAnd tenant (λ name. issuer ≡ before ++ name ++ after)

-- the user logged in at this time, which is neither in the future nor longer ago than the age
pub record IsOfAge (leeway : ℕ) (now : ℤ) (age : ℕ) (time : ℤ) : Type 0 where
  pub not_later : time ≤ℤ (now +ℤ pos leeway)
  pub not_too_old : now ≤ℤ (time +ℤ pos age +ℤ pos leeway)

-- the claims of a token that names this tenant meet 3.1.3.7 for a client that expects this, at the
-- moment `now` (nanoseconds since 1970-01-01T00:00:00Z)
pub record ClaimsHold (expected : Expectation) (now : ℤ) (tenant : Option (List ℕ)) (claims : Claims) : Type 0 where
  pub issuer : IsIssuer expected.issuer tenant claims.issuer
  pub subject : claims.subject ≢ []
  pub audience : Contains claims.audience expected.client
  pub trusted : All (Contains (expected.client ∷ expected.other_audiences)) claims.audience
  pub party : IfSome claims.authorized_party (Contains (expected.client ∷ expected.authorized_parties))
  pub several : 1 < length claims.audience → IsSome claims.authorized_party
  pub not_expired : now <ℤ (claims.expires_at +ℤ pos expected.leeway)
  pub issued : claims.issued_at ≤ℤ (now +ℤ pos expected.leeway)
  pub nonce : option_map sha256 claims.nonce ≡ option_map sha256 expected.nonce
  pub age : IfSome expected.greatest_age (λ age. IsSomeAnd claims.auth_time (IsOfAge expected.leeway now age))
