-- What the code holds of the result of a request to a server without extensions.
use Rattle.std.specs.Prelude.{ℕ, List, Result, codes}
use Rattle.oauth2_codes.specs.Codes.{token_code}
use Rattle.oauth2_codes.specs.ErrorCodes.{error_code, error_code_text, revocation_error_code, revocation_error_code_text}
use Rattle.oauth2_codes.specs.ErrorResponse.{ErrorParts, parts_of}
use Rattle.oauth2_codes.specs.declared.basic_error.BasicErrorResponseType.{BasicErrorResponseType}
use Rattle.oauth2_codes.specs.declared.error_response.StandardErrorResponse.{StandardErrorResponse}
use Rattle.oauth2_codes.specs.declared.revocation_error.RevocationErrorResponseType.{RevocationErrorResponseType}
use Rattle.oauth2_codes.specs.declared.token_type.BasicTokenType.{BasicTokenType}
use Rattle.oauth2_replies.specs.Token.{Token, token_seen}
use Rattle.oauth2_replies.specs.declared.token.EmptyExtraTokenFields.{EmptyExtraTokenFields}
use Rattle.oauth2_wire.specs.declared.error.RequestTokenError.{RequestTokenError}
use Rattle.oauth2_request_commands.specs.Exchange.{BasicToken, error_members}
use Rattle.oauth2_request_commands.specs.Faults.{end_output}
use Rattle.oauth2_request_commands.specs.Out.{Output, success_output}
use Rattle.oauth2_world.specs.declared.replay.NoReply.{NoReply}

-- an error response, as the code holds it (RFC 6749, 5.2)
abbrev pub ErrorResponse : Type 0
ErrorResponse = StandardErrorResponse BasicErrorResponseType

-- the error of a request that the scripted client sends: `NoReply` where the script has no reply to
-- it, an error response (RFC 6749, 5.2), or another error of the library
abbrev pub ShownFault : Type 0
ShownFault = RequestTokenError NoReply ErrorResponse

-- the members of an error response that the code holds (RFC 6749, 5.2)
abbrev pub error_seen : ErrorResponse → ErrorParts (List ℕ)
error_seen e = error_members error_code_text (parts_of error_code e)

-- a token response without extension members, as contracts see the one that the code holds
abbrev pub TokenSeen : Type 0
TokenSeen = Token EmptyExtraTokenFields BasicTokenType

-- a token response that the code holds, as the specification has it
abbrev pub token_meaning : TokenSeen → BasicToken
token_meaning t = token_seen (λ _. tt) token_code t

-- an error response to a revocation request, as the code holds it (RFC 7009, 2.2.1)
abbrev pub RevocationErrorResponse : Type 0
RevocationErrorResponse = StandardErrorResponse RevocationErrorResponseType

-- the error of a revocation request of the scripted client, as the code holds it
abbrev pub RevocationFault : Type 0
RevocationFault = RequestTokenError NoReply RevocationErrorResponse

-- the members of an error response to a revocation request that the code holds (RFC 7009, 2.2.1)
abbrev pub revocation_error_seen : RevocationErrorResponse → ErrorParts (List ℕ)
revocation_error_seen e =
    error_members revocation_error_code_text (parts_of revocation_error_code e)

-- what is shown of the result of a revocation request: `null`, or the fault
abbrev pub revocation_output : Result Unit RevocationFault → Output
revocation_output result =
    end_output revocation_error_seen (λ done. success_output (codes "null")) result
