-- A logout token (OpenID Connect Back-Channel Logout 1.0, 2.4).
use Rattle.std.specs.Prelude.{ℕ, ℤ, List, [], Option, Some, None}
use Rattle.oauth2_openid.specs.Claims.{claims}
use Rattle.oauth2_openid.specs.Token.{Header, WithOthers, with_others, DecodedCompactToken, decoded_compact_token, DecodedToken, decoded_token}

-- 2.4: the claims `iss`, `sub`, `aud`, `iat`, `exp`, `jti` and `sid`; times are in nanoseconds since
-- 1970-01-01T00:00:00Z. The claim `events` is among the other claims.
pub record LogoutClaims : Type 0 where
  pub issuer : List ℕ
  pub subject : Option (List ℕ)
  pub audience : List (List ℕ)
  pub issued_at : ℤ
  pub expires_at : ℤ
  pub token_id : List ℕ
  pub session_id : Option (List ℕ)

-- `LogoutClaims` from its fields, in their order
abbrev pub logout_claims : List ℕ → Option (List ℕ) → List (List ℕ) → ℤ → ℤ → List ℕ
    → Option (List ℕ) → LogoutClaims
logout_claims i s a t e j d =
    record { issuer = i; subject = s; audience = a; issued_at = t; expires_at = e; token_id = j; session_id = d }

-- a logout token: its header, its claims, the text that is signed, and the bytes of the signature
abbrev pub DecodedLogoutToken : Type 0
DecodedLogoutToken = DecodedCompactToken (WithOthers LogoutClaims)

-- `DecodedLogoutToken` from the signed text, the header, the claims and the bytes of the signature
abbrev pub decoded_logout_token : List ℕ → WithOthers Header → WithOthers LogoutClaims → List ℕ
    → DecodedLogoutToken
decoded_logout_token t h c s = decoded_compact_token t h c s

-- the subject of an ID token, which has to have one: an empty text if the logout token has none
abbrev pub subject_or_empty : Option (List ℕ) → List ℕ
subject_or_empty None = []
subject_or_empty (Some subject) = subject

-- 2.6, 2: the signature is validated as that of an ID token. This is the ID token with the same
-- header, signed text, signature and claims.
abbrev pub as_id_token : DecodedLogoutToken → DecodedToken
as_id_token t =
    let own = t.claims.own in
    let as_claims = claims own.issuer (subject_or_empty own.subject) own.audience own.expires_at own.issued_at None None None None None None in
    decoded_token t.signed t.header (with_others as_claims t.claims.others) t.signature
