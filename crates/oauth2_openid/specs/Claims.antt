-- What an ID token claims, and what a client expects of it (OpenID Connect Core 1.0, section 2).
use Rattle.std.specs.Prelude.{ℕ, ℤ, List, Option}

-- the claims that `IdTokenClaims` has a method for; times are in nanoseconds since
-- 1970-01-01T00:00:00Z
pub record Claims : Type 0 where
  pub issuer : List ℕ
  pub subject : List ℕ
  pub audience : List (List ℕ)
  pub expires_at : ℤ
  pub issued_at : ℤ
  pub auth_time : Option ℤ
  pub nonce : Option (List ℕ)
  pub authentication_context_class : Option (List ℕ)
  pub authentication_methods : Option (List (List ℕ))
  pub authorized_party : Option (List ℕ)
  pub access_token_hash : Option (List ℕ)

-- `Claims` from its fields, in their order
abbrev pub claims : List ℕ → List ℕ → List (List ℕ) → ℤ → ℤ → Option ℤ
    → Option (List ℕ)
    → Option (List ℕ)
    → Option (List (List ℕ))
    → Option (List ℕ)
    → Option (List ℕ)
    → Claims
claims i s a e t u n c m p h =
    record {
      issuer = i;
      subject = s;
      audience = a;
      expires_at = e;
      issued_at = t;
      auth_time = u;
      nonce = n;
      authentication_context_class = c;
      authentication_methods = m;
      authorized_party = p;
      access_token_hash = h;
    }

-- the issuers that a client expects: one; any of several; or, for a provider that has an issuer for
-- each of its tenants, the parts of the issuer before and after the tenant's name
pub data NamedIssuers : Type 0 where
  is : List ℕ → NamedIssuers
  one_of : List (List ℕ) → NamedIssuers
  per_tenant : List ℕ → List ℕ → NamedIssuers

-- what a client expects of an ID token; durations are in nanoseconds
pub record Expectation : Type 0 where
  pub issuer : NamedIssuers
  pub client : List ℕ
  pub other_audiences : List (List ℕ)
  pub authorized_parties : List (List ℕ)
  pub algorithm : Option (List ℕ)
  pub nonce : Option (List ℕ)
  pub leeway : ℕ
  pub greatest_age : Option ℕ
