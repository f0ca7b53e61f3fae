-- What the redirect of an authorization endpoint says (RFC 6749, 4.1.2 and 4.1.2.1; RFC 9207, 2.4).
use Rattle.std.specs.Prelude.{◌≡◌, ℕ, List, [], ◌∷◌, Option, Some, None, option_map, Result, Ok, Err, Bool, true, false, if◌then◌else◌, codes, bytes_eq, string_bytes, IfSome, IsTrue}
use Rattle.oauth2_types.specs.Digest.{digest_eq}
use Rattle.oauth2_codes.specs.ErrorResponse.{ErrorParts, parts_of_error, parts_of, error_text}
use Rattle.oauth2_redirect.specs.declared.issuer.ExpectedIssuer.{ExpectedIssuer}
use Rattle.oauth2_redirect.specs.declared.issuer.ExpectedIssuer.TheVariants as issuers
use Rattle.oauth2_redirect.specs.declared.issuer.LoginIssuer.{LoginIssuer}
use Rattle.oauth2_redirect.specs.declared.issuer.LoginIssuer.TheVariants.{InEachRedirect, OwnRedirectUri}
use Rattle.oauth2_redirect.specs.declared.redirect.RedirectError.{RedirectError}
use Rattle.oauth2_redirect.specs.declared.redirect.RedirectError.TheVariants as errors
use Rattle.oauth2_codes.specs.AuthorizationCodes.{AuthorizationErrorCode, authorization_error_code, authorization_error_code_of, authorization_error_code_text}
use Rattle.oauth2_form.specs.Pairs.{Pair}
use Rattle.oauth2_redirect.specs.Query.{sole_text, first_text, texts, is_visible}

-- why a redirect has no code for the login: a `RedirectError` without its place in memory
pub data RedirectErrorView : Type 0 where
  other_state : RedirectErrorView
  other_issuer : RedirectErrorView
  refused : ErrorParts AuthorizationErrorCode → RedirectErrorView
  no_code : RedirectErrorView

-- whether the redirect's `state` is the login's: their digests are equal
abbrev pub is_state : List ℕ → Option (List ℕ) → Bool
is_state state None = false
is_state state (Some told) = digest_eq told state

-- the issuer that a client expects: one that each redirect must name in `iss`, one that a redirect
-- may leave out, or none (RFC 9207, 2.4)
pub data IssuerExpectation : Type 0 where
  required : List ℕ → IssuerExpectation
  compared : List ℕ → IssuerExpectation
  unknown : IssuerExpectation

-- the expectation that an `ExpectedIssuer` stands for, without its place in memory
abbrev pub issuer_expectation : ExpectedIssuer → IssuerExpectation
issuer_expectation (issuers.Required issuer) = required issuer.now
issuer_expectation (issuers.Compared issuer) = compared issuer.now
issuer_expectation issuers.Unknown = unknown

-- the expectation of an issuer that a redirect may leave out, if it is known at all
abbrev pub compared_if_known : Option (List ℕ) → IssuerExpectation
compared_if_known (Some issuer) = compared issuer
compared_if_known None = unknown

-- the expectation that a `LoginIssuer` stands for: each redirect names the issuer (RFC 9207, 3), or
-- the redirect URI is used for one server alone (RFC 9700, 4.4.2.2)
abbrev pub expectation_of : LoginIssuer → IssuerExpectation
expectation_of (InEachRedirect issuer) = required (string_bytes issuer)
expectation_of (OwnRedirectUri issuer) = compared_if_known (option_map string_bytes issuer)

-- whether a redirect with these values of `iss` may come from the expected issuer (RFC 9207, 2.4):
-- a single value must equal it byte for byte, and several are refused (RFC 6749, 3.1)
abbrev pub is_issuer : IssuerExpectation → List (List ℕ) → Bool
is_issuer (required issuer) [] = false
is_issuer (required issuer) (told ∷ []) = bytes_eq told issuer
is_issuer (required issuer) (told ∷ (other ∷ more)) = false
is_issuer (compared issuer) [] = true
is_issuer (compared issuer) (told ∷ []) = bytes_eq told issuer
is_issuer (compared issuer) (told ∷ (other ∷ more)) = false
is_issuer unknown told = true

-- the error response with this code, and with the redirect's `error_description` and `error_uri`,
-- each if it is sent exactly once (RFC 6749, 4.1.2.1)
abbrev pub error_parts : List ℕ → List Pair → ErrorParts AuthorizationErrorCode
error_parts error pairs =
    parts_of_error (authorization_error_code_of error) (sole_text (codes "error_description") pairs)
    (sole_text (codes "error_uri") pairs)

-- the redirect's error response, if it has an `error` (RFC 6749, 4.1.2.1)
abbrev pub error_told : Option (List ℕ) → List Pair → Option (ErrorParts AuthorizationErrorCode)
error_told None pairs = None
error_told (Some error) pairs = Some (error_parts error pairs)

-- the code, if the redirect has exactly one (RFC 6749, 4.1.2), and else `no_code`
abbrev pub code_told : Option (List ℕ) → Result (List ℕ) RedirectErrorView
code_told None = Err no_code
code_told (Some code) = Ok code

-- a redirect with an error is refused, even if it has a code too
abbrev pub unless_error : Option (ErrorParts AuthorizationErrorCode)
    → Result (List ℕ) RedirectErrorView → Result (List ℕ) RedirectErrorView
unless_error None code = code
unless_error (Some error) code = Err (refused error)

-- the code of a redirect with these parameters, or why it is refused, for a login with this state
-- and a client that expects this issuer
abbrev pub answer : List ℕ → IssuerExpectation → List Pair → Result (List ℕ) RedirectErrorView
answer state issuer pairs =
    if is_state state (sole_text (codes "state") pairs)
    then (if is_issuer issuer (texts (codes "iss") pairs)
    then unless_error (error_told (first_text (codes "error") pairs) pairs) (code_told (sole_text (codes "code") pairs))
    else Err other_issuer)
    else Err other_state

-- ---- out of memory

-- the expected issuer, if there is one, has only visible ASCII characters
abbrev pub IsVisibleIssuer : IssuerExpectation → Type 0
IsVisibleIssuer (required issuer) = IsTrue (is_visible issuer)
IsVisibleIssuer (compared issuer) = IsTrue (is_visible issuer)
IsVisibleIssuer unknown = Unit {0}

-- the answer holds texts: it is a code, or the server's error
abbrev pub HoldsTexts : Result (List ℕ) RedirectErrorView → Type 0
HoldsTexts (Ok code) = Unit {0}
HoldsTexts (Err other_state) = ⊥
HoldsTexts (Err other_issuer) = ⊥
HoldsTexts (Err (refused error)) = Unit {0}
HoldsTexts (Err no_code) = ⊥

-- reading the redirect may run out of memory. If its `state` and the expected issuer have only
-- visible ASCII characters, it may do so only for an answer that holds texts.
abbrev pub MayWantMemory : List ℕ → IssuerExpectation → List Pair → Type 0
MayWantMemory state issuer pairs =
    IfSome (sole_text (codes "state") pairs) (λ told. IsTrue (is_visible told)) → IsVisibleIssuer issuer
    → HoldsTexts (answer state issuer pairs)

-- ---- what is returned

-- the error says why `expected` is no code; `Memory` says nothing about it
abbrev pub ShowsRedirectError : RedirectError → Result (List ℕ) RedirectErrorView → Type 0
ShowsRedirectError errors.OtherState expected = expected ≡ Err other_state
ShowsRedirectError errors.OtherIssuer expected = expected ≡ Err other_issuer
ShowsRedirectError (errors.Refused error) expected =
    expected ≡ Err (refused (parts_of authorization_error_code error))
ShowsRedirectError errors.NoCode expected = expected ≡ Err no_code
ShowsRedirectError errors.Memory expected = Unit {0}

-- the result is the expected one, unless memory ran out
abbrev pub Tells : Result (List ℕ) RedirectError → Result (List ℕ) RedirectErrorView → Type 0
Tells (Ok code) expected = expected ≡ Ok code
Tells (Err error) expected = ShowsRedirectError error expected

-- the text that `Display` writes of an error
abbrev pub redirect_error_text : RedirectError → Option (List ℕ)
redirect_error_text errors.OtherState = Some (codes "redirect has another state")
redirect_error_text errors.OtherIssuer = Some (codes "redirect has another issuer")
redirect_error_text (errors.Refused error) =
    let told = parts_of (λ t. t) error in error_text (Some (authorization_error_code_text (authorization_error_code told.error))) told
redirect_error_text errors.NoCode = Some (codes "redirect has no code")
redirect_error_text errors.Memory = Some (codes "Out of memory")
