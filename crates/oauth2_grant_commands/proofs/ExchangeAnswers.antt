-- What the code holds of the reply to an exchange, and what is written of it.
use Rattle.std.proofs.Common.{◌≡◌, Ok, Some, false, refl}
use Rattle.std.specs.Prelude.{IsOkAnd}
use Rattle.serde_json.specs.Data.{string}
use Rattle.serde_json.specs.Written.{has_float}
use Rattle.oauth2_codes.specs.Codes.{token_code, token_code_text}
use Rattle.oauth2_codes.specs.ErrorResponse.{error_text, parts_of}
use Rattle.oauth2_codes.specs.declared.error_response.StandardErrorResponse.{StandardErrorResponse}
use Rattle.oauth2_codes.specs.declared.token_type.BasicTokenType.{BasicTokenType}
use Rattle.oauth2_json.specs.Writing.{Writing}
use Rattle.oauth2_replies.specs.Token.{Token, token_rows, token_seen, token_writing}
use Rattle.oauth2_grants.specs.ExchangeFields.{exchange_fields, exchange_fields_writing, issued_type_of}
use Rattle.oauth2_grants.specs.ExchangeErrors.{exchange_error_code, exchange_error_code_text}
use Rattle.oauth2_grants.specs.declared.exchange_error.TokenExchangeErrorType.{TokenExchangeErrorType}
use Rattle.oauth2_grants.specs.declared.exchange_fields.ExchangeFields.{ExchangeFields}
use Rattle.oauth2_request_commands.specs.Exchange.{error_members}
use Rattle.oauth2_request_commands.specs.Out.{members_text}
use Rattle.oauth2_request_commands.proofs.NoFloats.{put_all-no_float, token_rows-free}
use Rattle.oauth2_request_commands.proofs.Results.{free_of}
use Rattle.oauth2_grant_commands.specs.ExchangeToken.{ExchangeAnswer, exchange_data}

abbrev pub ExchangeSeen : Type 0
ExchangeSeen = Token ExchangeFields BasicTokenType

abbrev pub exchange_meaning : ExchangeSeen → ExchangeAnswer
exchange_meaning t = token_seen issued_type_of token_code t

abbrev exchange_written : ExchangeSeen → Writing
exchange_written t =
    token_writing (λ fields. exchange_fields_writing (issued_type_of fields)) (λ k. Ok (string (token_code_text (token_code k)))) t

pub exchange_written-data : (t : ExchangeSeen) → exchange_written t ≡ Ok (exchange_data (exchange_meaning t))
unfolding exchange_data
exchange_written-data t = refl

exchange_data-no_float : (r : ExchangeAnswer) → has_float (exchange_data r) ≡ false
unfolding exchange_data
exchange_data-no_float r =
    put_all-no_float (token_rows (string (token_code_text r.token_type)) r) (exchange_fields r.extra_fields)
    (token_rows-free (token_code_text r.token_type) r) refl

pub exchange_free : (t : ExchangeSeen) → IsOkAnd (exchange_written t) (λ d. has_float d ≡ false)
exchange_free t =
    free_of (exchange_written t) (exchange_data (exchange_meaning t)) (exchange_written-data t)
    (exchange_data-no_float (exchange_meaning t))

-- how the server's error is shown
pub exchange_error_told : (e : StandardErrorResponse TokenExchangeErrorType)
    → error_text (Some (exchange_error_code_text (exchange_error_code e.error))) (parts_of (λ t. t) e)
    ≡ Some (members_text (error_members exchange_error_code_text (parts_of exchange_error_code e)))
exchange_error_told e = refl
