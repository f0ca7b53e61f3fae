-- A JWT access token, and how a text is read as one (RFC 9068, 2).
use Rattle.std.specs.Prelude.{ℕ, ℤ, List, Option, Ok, codes}
use Rattle.serde_json.specs.Data.{Data}
use Rattle.serde_json.specs.Find.{get}
use Rattle.oauth2_json.specs.Members.{needed_member, optional_member}
use Rattle.oauth2_json.specs.Reading.{Reading, ◌⊛◌}
use Rattle.oauth2_json.specs.Values.{text, words_reading}
use Rattle.oauth2_openid.specs.declared.read_error.TokenPart.TheVariants as part
use Rattle.oauth2_openid.specs.Times.{time}
use Rattle.oauth2_openid.specs.Token.{DecodedToken, TokenReading}
use Rattle.oauth2_openid.specs.Reading.{compact_token_reading, of_part, token_then}

-- the claims that an ID token does not have: `client_id`, `jti`, `scope` (2.2 and 2.2.3) and `nbf`
-- (RFC 7519, 4.1.5), which is in nanoseconds since 1970-01-01T00:00:00Z
pub record OwnClaims : Type 0 where
  pub client_id : List ℕ
  pub token_id : List ℕ
  pub scopes : Option (List (List ℕ))
  pub not_before : Option ℤ

-- `OwnClaims` from its fields, in their order
abbrev pub own_claims : List ℕ → List ℕ → Option (List (List ℕ)) → Option ℤ → OwnClaims
own_claims c t s n = record { client_id = c; token_id = t; scopes = s; not_before = n }

-- a JWT access token: the decoded JSON Web Token, and those claims
pub record AccessToken : Type 0 where
  pub token : DecodedToken
  pub own : OwnClaims

-- `AccessToken` from its fields, in their order
abbrev pub access_token : DecodedToken → OwnClaims → AccessToken
access_token t o = record { token = t; own = o }

-- the claims of an access token alone, from the object of claims: if several are wrong, the first
-- of these is the fault
unfoldable pub own_claims_in : Data → Reading OwnClaims
own_claims_in claims =
    Ok own_claims
    ⊛ needed_member text (codes "client_id") (get (codes "client_id") claims)
    ⊛ needed_member text (codes "jti") (get (codes "jti") claims)
    ⊛ optional_member (words_reading text) (codes "scope") (get (codes "scope") claims)
    ⊛ optional_member time (codes "nbf") (get (codes "nbf") claims)

-- the access token of a decoded JSON Web Token, with those claims read from its payload
abbrev pub own_reading : DecodedToken → TokenReading AccessToken
own_reading t =
    token_then (of_part part.Payload (own_claims_in t.claims.others))
    (λ own. Ok (access_token t own))

-- the access token that a text in compact form holds. The claims of an ID token are read first, so
-- `iss`, `sub`, `aud`, `exp` and `iat` have to be present, and their faults are reported first.
abbrev pub access_token_reading : List ℕ → TokenReading AccessToken
access_token_reading encoded = token_then (compact_token_reading encoded) own_reading
