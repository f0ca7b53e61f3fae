-- Which sessions a logout token ends (OpenID Connect Back-Channel Logout 1.0, 2.4 and 2.7).
use Rattle.std.specs.Prelude.{ℕ, List, Bool, true, false, ◌&&◌, ◌||◌, Option, Some, None, is_some, bytes_eq}
use Rattle.oauth2_signed_tokens.specs.logout_tokens.LogoutToken.{LogoutClaims}

-- whether a claim of the token agrees with what the session has, byte for byte; a claim that the
-- token lacks agrees, and one that the session lacks does not
abbrev pub agrees : Option (List ℕ) → Option (List ℕ) → Bool
agrees None known = true
agrees (Some told) None = false
agrees (Some told) (Some known) = bytes_eq told known

-- a session of a client, as its ID token names it: the claims `iss`, `sub` and, if it has one, `sid`
pub record Session : Type 0 where
  pub issuer : List ℕ
  pub subject : List ℕ
  pub session_id : Option (List ℕ)

-- 2.4 and 2.7: whether the token ends this session: it has the session's issuer, and each of the
-- claims `sub` and `sid` that the token has is the session's. A token without `sid` ends all sessions
-- of its `sub`.
abbrev pub is_of : LogoutClaims → Session → Bool
is_of claims session =
    bytes_eq claims.issuer session.issuer
    && (is_some claims.subject || is_some claims.session_id)
    && agrees claims.subject (Some session.subject)
    && agrees claims.session_id session.session_id
