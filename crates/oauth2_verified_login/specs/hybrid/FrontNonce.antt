-- The nonce of an ID token of the front channel (OpenID Connect Core 1.0, 3.3.2.11).
use Rattle.std.specs.Prelude.{◌≡◌, ℕ, List, Some, IsSomeAnd}
use Rattle.sha2.specs.Sha256.{sha256}
use Rattle.oauth2_openid.specs.Claims.{Expectation}
use Rattle.oauth2_openid.specs.Token.{DecodedToken}

-- 3.3.2.11: a nonce was sent, and the token has the claim `nonce` with the same SHA-256 digest
abbrev pub HasSentNonce : Expectation → DecodedToken → Type 0
HasSentNonce expected token =
    (sent : List ℕ) × (expected.nonce ≡ Some sent)
    × IsSomeAnd token.claims.own.nonce (λ told. sha256 told ≡ sha256 sent)
