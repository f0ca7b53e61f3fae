-- The rules for the front channel's ID token, and the rules for any ID token.
use Rattle.std.proofs.Common.{◌≡◌, ℕ, ℤ, List, true, Option, Some, Result, Ok, Err, refl, sym, ap, subst, ◌∙◌}
use Rattle.std.specs.Prelude.{IsSomeAnd, IsTrue}
use Rattle.oauth2_json.specs.Reading.{fault_of}
use Rattle.oauth2_openid.specs.declared.access_token_hash.AccessTokenHash.{AccessTokenHash}
use Rattle.oauth2_openid.specs.declared.claims_error.ClaimsError.{ClaimsError}
use Rattle.oauth2_openid.specs.declared.claims_error.ClaimsError.TheVariants as errors
use Rattle.oauth2_openid.specs.declared.read_error.IdTokenReadError.{IdTokenReadError}
use Rattle.oauth2_openid.specs.declared.read_error.IdTokenReadError.TheVariants as read
use Rattle.oauth2_openid.specs.Claims.{Expectation}
use Rattle.oauth2_openid.specs.Reading.{compact_token_reading}
use Rattle.oauth2_openid.specs.Checks.{Verdict, ◌then◌}
use Rattle.oauth2_openid.specs.Token.{DecodedToken, TokenErrsAs, too_long, not_three_parts, not_base64, at_fault}
use Rattle.oauth2_openid.specs.TokenRules.{token_checked}
use Rattle.oauth2_openid.proofs.HashLaws.{hash_only, never_hash}
use Rattle.oauth2_keys.specs.Signature.{Check}
use Rattle.oauth2_verified_login.specs.declared.hybrid.front_token_error.FrontTokenError.{FrontTokenError}
use Rattle.oauth2_verified_login.specs.declared.hybrid.front_token_error.FrontTokenError.TheVariants.{Read, Claims, NoCodeHash, OtherCode, Signature, Memory}
use Rattle.oauth2_verified_login.specs.hybrid.CodeHash.{code_hash_of, is_code_hash}
use Rattle.oauth2_verified_login.specs.hybrid.FrontToken.{front_rules, IsFrontRefusal, JudgesFrontToken}
use Rattle.oauth2_verified_login.specs.hybrid.private.Unread.{unless_hash, unread_as}

-- ---- the outcome of the rules, by the result of the check

verdict-ok : (verdict : Verdict ClaimsError) (later : Result AccessTokenHash ClaimsError) (outcome : AccessTokenHash) → Ok outcome ≡ verdict then later → Ok tt ≡ verdict
verdict-ok (Ok u) later outcome is = refl
verdict-ok (Err e) later outcome is = absurd (cc)

-- an error but that of the hash is told
told-unless : (error : ClaimsError) → (error ≡ errors.OtherAccessToken → ⊥) → unless_hash error ≡ Err error
told-unless errors.OtherAccessToken differ = absurd (differ refl)
told-unless errors.NoSignature differ = refl
told-unless errors.OtherAlgorithm differ = refl
told-unless errors.CriticalExtension differ = refl
told-unless errors.UnencodedPayload differ = refl
told-unless errors.OtherType differ = refl
told-unless errors.OtherIssuer differ = refl
told-unless errors.NoSubject differ = refl
told-unless errors.OtherAudience differ = refl
told-unless errors.UntrustedAudience differ = refl
told-unless errors.NoAuthorizedParty differ = refl
told-unless errors.OtherAuthorizedParty differ = refl
told-unless errors.Expired differ = refl
told-unless errors.IssuedLater differ = refl
told-unless errors.NoNonce differ = refl
told-unless errors.NonceNotSent differ = refl
told-unless errors.OtherNonce differ = refl
told-unless errors.NoAuthTime differ = refl
told-unless errors.AuthLater differ = refl
told-unless errors.AuthTooOld differ = refl
told-unless errors.NotYetValid differ = refl

verdict-error : (verdict : Verdict ClaimsError) (later : Result AccessTokenHash ClaimsError) (error : ClaimsError) → (later ≡ Err error → error ≡ errors.OtherAccessToken) → (verdict ≡ Err errors.OtherAccessToken → ⊥) → Err error ≡ verdict then later → unless_hash error ≡ verdict
verdict-error (Ok u) later error only never is = ap unless_hash (only (sym is))
verdict-error (Err other) later error only never is =
    let same : error ≡ other = cc in
    ap unless_hash same ∙ told-unless other (λ (e : other ≡ errors.OtherAccessToken). never (cc))

module _ (expected : Expectation) (access_token : List ℕ) (now : ℤ) (token : DecodedToken) where
  pub front-ok : (outcome : AccessTokenHash) → Ok outcome ≡ token_checked expected access_token now token → Ok tt ≡ front_rules expected now token
  front-ok outcome is = verdict-ok (front_rules expected now token) _ outcome is

  pub front-error : (error : ClaimsError) → Err error ≡ token_checked expected access_token now token → unless_hash error ≡ front_rules expected now token
  front-error error is =
      verdict-error (front_rules expected now token) _ error (hash_only token.header.own.algorithm access_token token.claims.own.access_token_hash error) (never_hash expected now token) is

-- ---- the result for a text

-- a hash that was found and compared
pub found_hash : (token : DecodedToken) (code told algorithm bytes : List ℕ) → Some told ≡ code_hash_of token → algorithm ≡ token.header.own.algorithm → bytes ≡ code
    → is_code_hash algorithm bytes told ≡ true → IsSomeAnd (code_hash_of token) (λ hash. IsTrue (is_code_hash token.header.own.algorithm code hash))
found_hash token code told algorithm bytes found named read is =
    let here : is_code_hash token.header.own.algorithm code told ≡ true =
    ap (λ (a : List ℕ). is_code_hash a code told) (sym named) ∙ ap (λ (b : List ℕ). is_code_hash algorithm b told) (sym read) ∙ is in
    subst (λ (o : Option (List ℕ)). IsSomeAnd o (λ hash. IsTrue (is_code_hash token.header.own.algorithm code hash))) found here

module _ (expected : Expectation) (check : Check) (code : List ℕ) (now : ℤ) (text : List ℕ) where
  -- a text that is no ID token
  pub JudgesFrontToken-unread : (error : IdTokenReadError) → TokenErrsAs error (compact_token_reading text) → JudgesFrontToken expected check code now text (Err (unread_as error))
  JudgesFrontToken-unread read.TooLong errs = (too_long, refl, errs)
  JudgesFrontToken-unread read.NotThreeParts errs = (not_three_parts, refl, errs)
  JudgesFrontToken-unread (read.NotBase64 part) errs = (not_base64 part, refl, errs)
  JudgesFrontToken-unread (read.Fault part fault) errs = (at_fault part (fault_of fault), refl, errs)
  JudgesFrontToken-unread read.Memory errs = errs

  -- a token that is refused
  pub JudgesFrontToken-refused : (token : DecodedToken) (error : FrontTokenError) → compact_token_reading text ≡ Ok token
      → IsFrontRefusal expected check code now token error → JudgesFrontToken expected check code now text (Err error)
  JudgesFrontToken-refused token (Read error) is refused = absurd refused
  JudgesFrontToken-refused token (Claims error) is refused = (token, is, refused)
  JudgesFrontToken-refused token NoCodeHash is refused = (token, is, refused)
  JudgesFrontToken-refused token OtherCode is refused = (token, is, refused)
  JudgesFrontToken-refused token (Signature error) is refused = (token, is, refused)
  JudgesFrontToken-refused token Memory is refused = absurd refused
