-- The rule for the hash alone has the error of the hash, and no other.
use Rattle.std.proofs.Common.{◌≡◌, ℕ, ℤ, pos, ◌+ℤ◌, List, ◌∷◌, Bool, true, false, Option, Some, None, Result, Ok, Err, bytes_eq}
use Rattle.std.specs.Prelude.{if◌then◌else◌}
use Rattle.oauth2_types.specs.Pkce.{base64url}
use Rattle.oauth2_openid.specs.declared.access_token_hash.AccessTokenHash.TheVariants as hash
use Rattle.oauth2_openid.specs.declared.claims_error.ClaimsError.{ClaimsError}
use Rattle.oauth2_openid.specs.declared.claims_error.ClaimsError.TheVariants as errors
use Rattle.oauth2_openid.specs.Claims.{Expectation}
use Rattle.oauth2_openid.specs.Checks.{Verdict, rule, ◌then◌}
use Rattle.oauth2_openid.specs.Rules.{party_of, nonce_of, age_of, issuer_rule, subject_rule, audience_rule, trust_rule, party_rule, expiry_rule, issued_rule, nonce_rule, age_rule, claims_checked}
use Rattle.oauth2_openid.specs.Token.{DecodedToken}
use Rattle.oauth2_openid.specs.TokenRules.{algorithm_of, algorithm_rule, critical_rule, payload_rule, type_rule, start_rule, header_checked, half_digest, told_hash, hash_rule, tenant_of, rules_checked}

-- ---- no other rule has the error of the hash

never-rule : (met : Bool) (named other : ClaimsError) → (named ≡ other → ⊥) → rule met named ≡ Err other → ⊥
never-rule true named other differ is = cc
never-rule false named other differ is = differ (cc)

never-then : {A : Type 0} (first : Verdict ClaimsError) (later : Result A ClaimsError) (other : ClaimsError) → (first ≡ Err other → ⊥) → (later ≡ Err other → ⊥) → first then later ≡ Err other → ⊥
never-then (Ok u) later other no_first no_later is = no_later is
never-then (Err named) later other no_first no_later is = no_first (cc)

never-algorithm : (registered : Option (List ℕ)) (algorithm : List ℕ) → algorithm_of registered algorithm ≡ Err errors.OtherAccessToken → ⊥
never-algorithm None algorithm = never-rule _ errors.NoSignature _ (λ e. cc)
never-algorithm (Some registered) algorithm = never-rule _ errors.OtherAlgorithm _ (λ e. cc)

never-party : (parties audience : List (List ℕ)) (party : Option (List ℕ)) → party_of parties audience party ≡ Err errors.OtherAccessToken → ⊥
never-party parties audience None = never-rule _ errors.NoAuthorizedParty _ (λ e. cc)
never-party parties audience (Some party) = never-rule _ errors.OtherAuthorizedParty _ (λ e. cc)

never-nonce : (sent told : Option (List ℕ)) → nonce_of sent told ≡ Err errors.OtherAccessToken → ⊥
never-nonce None None is = cc
never-nonce None (Some told) is = cc
never-nonce (Some sent) None is = cc
never-nonce (Some sent) (Some told) is = never-rule _ errors.OtherNonce _ (λ e. cc) is

never-age : (leeway : ℕ) (now : ℤ) (greatest : Option ℕ) (time : Option ℤ) → age_of leeway now greatest time ≡ Err errors.OtherAccessToken → ⊥
never-age leeway now None time is = cc
never-age leeway now (Some age) None is = cc
never-age leeway now (Some age) (Some time) is =
    never-then (rule _ errors.AuthLater) (rule _ errors.AuthTooOld) errors.OtherAccessToken (never-rule _ errors.AuthLater _ (λ e. cc)) (never-rule _ errors.AuthTooOld _ (λ e. cc)) is

module _ (expected : Expectation) (now : ℤ) (token : DecodedToken) where
  never-claims : claims_checked expected now (tenant_of token.claims.others) token.claims.own ≡ Err errors.OtherAccessToken → ⊥
  never-claims =
      let own = token.claims.own in
      let none = errors.OtherAccessToken in
      never-then (issuer_rule expected (tenant_of token.claims.others) own) _ none (never-rule _ errors.OtherIssuer _ (λ e. cc))
      (never-then (subject_rule own) _ none (never-rule _ errors.NoSubject _ (λ e. cc))
      (never-then (audience_rule expected own) _ none (never-rule _ errors.OtherAudience _ (λ e. cc))
      (never-then (trust_rule expected own) _ none (never-rule _ errors.UntrustedAudience _ (λ e. cc))
      (never-then (party_rule expected own) _ none (never-party (expected.client ∷ expected.authorized_parties) own.audience own.authorized_party)
      (never-then (expiry_rule expected now own) _ none (never-rule _ errors.Expired _ (λ e. cc))
      (never-then (issued_rule expected now own) _ none (never-rule _ errors.IssuedLater _ (λ e. cc))
      (never-then (nonce_rule expected own) (age_rule expected now own) none (never-nonce expected.nonce own.nonce)
      (never-age expected.leeway now expected.greatest_age own.auth_time))))))))

  never-header : header_checked expected token.header ≡ Err errors.OtherAccessToken → ⊥
  never-header =
      let none = errors.OtherAccessToken in
      never-then (algorithm_rule expected token.header.own) _ none (never-algorithm expected.algorithm token.header.own.algorithm)
      (never-then (critical_rule token.header) _ none (never-rule _ errors.CriticalExtension _ (λ e. cc))
      (never-then (payload_rule token.header) (type_rule token.header) none (never-rule _ errors.UnencodedPayload _ (λ e. cc))
      (never-rule _ errors.OtherType _ (λ e. cc))))

  -- the rules except that for the hash never have its error
  pub never_hash : rules_checked expected now token ≡ Err errors.OtherAccessToken → ⊥
  never_hash =
      let none = errors.OtherAccessToken in
      never-then (header_checked expected token.header) _ none never-header
      (never-then (claims_checked expected now (tenant_of token.claims.others) token.claims.own) (start_rule expected now token.claims.others) none never-claims
      (never-rule _ errors.NotYetValid _ (λ e. cc)))

-- ---- the rule for the hash has no other error

matched-only : (met : Bool) (error : ClaimsError) → (if met then Ok hash.Matches else Err errors.OtherAccessToken) ≡ Err error → error ≡ errors.OtherAccessToken
matched-only true error is = absurd (cc)
matched-only false error is = cc

told-only : (told : List ℕ) (half : Option (List ℕ)) (error : ClaimsError) → told_hash told half ≡ Err error → error ≡ errors.OtherAccessToken
told-only told None error is = absurd (cc)
told-only told (Some half) error is = matched-only (bytes_eq told (base64url half)) error is

pub hash_only : (algorithm access_token : List ℕ) (told : Option (List ℕ)) (error : ClaimsError) → hash_rule algorithm access_token told ≡ Err error → error ≡ errors.OtherAccessToken
hash_only algorithm access_token None error is = absurd (cc)
hash_only algorithm access_token (Some told) error is = told-only told (half_digest algorithm access_token) error is
