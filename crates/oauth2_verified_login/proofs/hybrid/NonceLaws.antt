-- A token that meets the rules, where a nonce was sent.
use Rattle.std.proofs.Common.{◌≡◌, ℕ, ℤ, List, Option, Some, None, Result, Ok, Err, IfOk, refl}
use Rattle.std.specs.Prelude.{IsSome, IsSomeAnd, option_map}
use Rattle.sha2.specs.Sha256.{sha256}
use Rattle.oauth2_openid.specs.declared.id_token.IdToken.{IdToken}
use Rattle.oauth2_openid.specs.Claims.{Expectation}
use Rattle.oauth2_openid.specs.Seen.{token_of}
use Rattle.oauth2_keys.specs.Signature.{Check}
use Rattle.oauth2_verified_login.specs.declared.hybrid.front_token_error.FrontTokenError.{FrontTokenError}
use Rattle.oauth2_verified_login.specs.hybrid.FrontNonce.{HasSentNonce}
use Rattle.oauth2_verified_login.specs.hybrid.FrontToken.{JudgesFrontToken}

-- where a nonce was sent, a token with the same digest, or none, has one with the digest of it
same-digest : (expected told : Option (List ℕ)) → IsSome expected → option_map sha256 told ≡ option_map sha256 expected
    → (sent : List ℕ) × (expected ≡ Some sent) × IsSomeAnd told (λ nonce. sha256 nonce ≡ sha256 sent)
same-digest (Some sent) (Some nonce) some same = (sent, refl, cc)
same-digest (Some sent) None some same = absurd (cc)
same-digest None told some same = absurd (cc)

module _ (expected : Expectation) (check : Check) (code : List ℕ) (now : ℤ) (text : List ℕ) where
  -- a token that was verified has the nonce that was sent
  pub HasSentNonce-verified : IsSome expected.nonce → (result : Result IdToken FrontTokenError) → JudgesFrontToken expected check code now text result
      → IfOk result (λ token. HasSentNonce expected (token_of token))
  HasSentNonce-verified some (Ok token) judged = same-digest expected.nonce (token_of token).claims.own.nonce some judged.1.rules.claims.nonce
  HasSentNonce-verified some (Err error) judged = tt
