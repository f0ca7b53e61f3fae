-- The code of an error response to an exchange (RFC 8693, 2.2.2).
use Rattle.std.specs.Prelude.{ℕ, List, codes, Ok, if◌then◌else◌}
use Rattle.std.specs.Str.{bytes_eq}
use Rattle.serde_json.specs.Data.{Data}
use Rattle.oauth2_codes.specs.ErrorCodes.{ErrorCode, error_code, error_code_of, error_code_text}
use Rattle.oauth2_json.specs.Reading.{Reading, read_then}
use Rattle.oauth2_json.specs.Values.{text}
use Rattle.oauth2_grants.specs.declared.exchange_error.TokenExchangeErrorType.{TokenExchangeErrorType}
use Rattle.oauth2_grants.specs.declared.exchange_error.TokenExchangeErrorType.TheVariants.{InvalidTarget, Basic}

-- the code, without its place in memory: the one that RFC 8693, 2.2.2, adds, or one of RFC 6749, 5.2
pub data ExchangeErrorCode : Type 0 where
  invalid_target : ExchangeErrorCode
  basic : ErrorCode → ExchangeErrorCode

-- the code of an error type
abbrev pub exchange_error_code : TokenExchangeErrorType → ExchangeErrorCode
exchange_error_code InvalidTarget = invalid_target
exchange_error_code (Basic e) = basic (error_code e)

-- the code that a text names; a text other than `invalid_target` is read by `error_code_of`
abbrev pub exchange_error_code_of : List ℕ → ExchangeErrorCode
exchange_error_code_of s =
    if bytes_eq s (codes "invalid_target") then invalid_target else basic (error_code_of s)

-- the text of a code, as the server sends it
abbrev pub exchange_error_code_text : ExchangeErrorCode → List ℕ
exchange_error_code_text invalid_target = codes "invalid_target"
exchange_error_code_text (basic e) = error_code_text e

-- reads a JSON string as the code that it names; any other JSON value is of the wrong type
abbrev pub exchange_error_code_reading : Data → Reading ExchangeErrorCode
exchange_error_code_reading d = read_then (text d) (λ s. Ok (exchange_error_code_of s))
