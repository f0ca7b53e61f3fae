-- The ID token that comes through the front channel (OpenID Connect Core 1.0, 3.3.2.8 to 3.3.2.12).
use Rattle.std.specs.Prelude.{◌≡◌, ℕ, ℤ, List, ◌++◌, codes, false, IsTrue, Some, None, IsSomeAnd, Result, Ok, Err}
use Rattle.oauth2_openid.specs.declared.claims_error.ClaimsError.{ClaimsError}
use Rattle.oauth2_openid.specs.declared.id_token.IdToken.{IdToken}
use Rattle.oauth2_openid.specs.Claims.{Expectation}
use Rattle.oauth2_openid.specs.ErrorTexts.{claims_error_text, id_token_read_error_text}
use Rattle.oauth2_openid.specs.Checks.{Verdict}
use Rattle.oauth2_openid.specs.Reading.{compact_token_reading}
use Rattle.oauth2_openid.specs.Seen.{token_of}
use Rattle.oauth2_openid.specs.Token.{DecodedToken, TokenFault, FindsParts}
use Rattle.oauth2_openid.specs.TokenRules.{rules_checked, RulesHold}
use Rattle.oauth2_keys.specs.ErrorTexts.{signature_error_text}
use Rattle.oauth2_openid_login.specs.End.{fault_told}
use Rattle.oauth2_keys.specs.Signature.{Check, IsSigned, IsSignatureRefusal}
use Rattle.oauth2_verified_login.specs.declared.hybrid.front_token_error.FrontTokenError.{FrontTokenError}
use Rattle.oauth2_verified_login.specs.declared.hybrid.front_token_error.FrontTokenError.TheVariants.{Read, Claims, NoCodeHash, OtherCode, Signature, Memory}
use Rattle.oauth2_verified_login.specs.hybrid.CodeHash.{code_hash_of, is_code_hash}

-- 3.3.2.12: the rules of 3.1.3.7 for a token that came without an access token: the first broken
-- rule is the error
abbrev pub front_rules : Expectation → ℤ → DecodedToken → Verdict ClaimsError
front_rules expected now token = rules_checked expected now token

-- the token meets 3.1.3.7, except for its signature, for a client that expects this, at the moment
-- `now` (nanoseconds since 1970-01-01T00:00:00Z), and its `c_hash`, which it must have, is the hash
-- of this code (3.3.2.11)
pub record FrontHolds (expected : Expectation) (code : List ℕ) (now : ℤ) (token : DecodedToken) : Type 0 where
  pub rules : RulesHold expected now token
  pub code_hash : IsSomeAnd (code_hash_of token) (λ told. IsTrue (is_code_hash token.header.own.algorithm code told))

-- the error says what is wrong first with a token that was read: a rule of 3.1.3.7, its `c_hash`,
-- or its signature
abbrev pub IsFrontRefusal : Expectation → Check → List ℕ → ℤ → DecodedToken → FrontTokenError
    → Type 0
IsFrontRefusal expected check code now token (Read error) = ⊥
IsFrontRefusal expected check code now token (Claims error) =
    front_rules expected now token ≡ Err error
IsFrontRefusal expected check code now token NoCodeHash =
    (front_rules expected now token ≡ Ok tt) × (code_hash_of token ≡ None)
IsFrontRefusal expected check code now token OtherCode =
    (front_rules expected now token ≡ Ok tt)
    × IsSomeAnd (code_hash_of token)
    (λ told. is_code_hash token.header.own.algorithm code told ≡ false)
IsFrontRefusal expected check code now token (Signature error) =
    FrontHolds expected code now token × IsSignatureRefusal check token error
IsFrontRefusal expected check code now token Memory = ⊥

-- the result for a token that was read: each rule holds and it is signed, or the error says what is
-- wrong first
abbrev pub ChecksFrontToken : Expectation → Check → List ℕ → ℤ → DecodedToken
    → Result Unit FrontTokenError → Type 0
ChecksFrontToken expected check code now token (Ok done) =
    FrontHolds expected code now token × IsSigned check token
ChecksFrontToken expected check code now token (Err error) =
    IsFrontRefusal expected check code now token error

-- the result for the text of the front channel's ID token: the token that was read from it, which
-- meets each rule and is signed, or an error that says what is wrong first, or `Memory`
abbrev pub JudgesFrontToken : Expectation → Check → List ℕ → ℤ → List ℕ
    → Result IdToken FrontTokenError → Type 0
JudgesFrontToken expected check code now text (Ok token) =
    (compact_token_reading text ≡ Ok (token_of token))
    × FrontHolds expected code now (token_of token) × IsSigned check (token_of token)
JudgesFrontToken expected check code now text (Err (Read error)) =
    (fault : TokenFault) × (fault_told error ≡ Some fault) × (compact_token_reading text ≡ Err fault)
JudgesFrontToken expected check code now text (Err Memory) =
    FindsParts (compact_token_reading text)
JudgesFrontToken expected check code now text (Err error) =
    (token : DecodedToken) × (compact_token_reading text ≡ Ok token)
    × IsFrontRefusal expected check code now token error

-- the text that `Display` writes of an error
abbrev pub front_token_error_text : FrontTokenError → List ℕ
front_token_error_text (Read error) = codes "ID token: " ++ id_token_read_error_text error
front_token_error_text (Claims error) = codes "ID token: " ++ claims_error_text error
front_token_error_text NoCodeHash = codes "ID token: no hash of the code"
front_token_error_text OtherCode = codes "ID token: the hash is that of another code"
front_token_error_text (Signature error) = codes "ID token: " ++ signature_error_text error
front_token_error_text Memory = codes "out of memory"

-- 3.3.3.6: the claims `iss` and `sub` are identical in both tokens
abbrev pub IsSameUser : DecodedToken → DecodedToken → Type 0
IsSameUser front second =
    (second.claims.own.issuer ≡ front.claims.own.issuer)
    × (second.claims.own.subject ≡ front.claims.own.subject)
