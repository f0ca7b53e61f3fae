-- What a run shows of the result of a request.
use Rattle.std.proofs.Common.{◌≡◌, ℕ, List, Option, Some, None, Result, Ok, false, refl}
use Rattle.std.specs.Prelude.{IsOkAnd}
use Rattle.serde_json.specs.Data.{Data, string, object, no_members}
use Rattle.serde_json.specs.Written.{has_float}
use Rattle.oauth2_codes.specs.Codes.{token_code, token_code_text}
use Rattle.oauth2_codes.specs.ErrorCodes.{error_code, error_code_text, device_error_code, device_error_code_text, revocation_error_code, revocation_error_code_text}
use Rattle.oauth2_codes.specs.ErrorResponse.{ErrorParts, error_text, parts_of}
use Rattle.oauth2_json.specs.Writing.{Writing}
use Rattle.oauth2_codes.specs.declared.device_error.DeviceCodeErrorResponseType.{DeviceCodeErrorResponseType}
use Rattle.oauth2_codes.specs.declared.error_response.StandardErrorResponse.{StandardErrorResponse}
use Rattle.oauth2_codes.specs.declared.token_type.BasicTokenType.{BasicTokenType}
use Rattle.oauth2_replies.specs.Device.{DeviceAuthorization, device_seen, device_writing}
use Rattle.oauth2_replies.specs.declared.device.EmptyExtraDeviceAuthorizationFields.{EmptyExtraDeviceAuthorizationFields}
use Rattle.oauth2_introspection.specs.Introspection.{Introspection, introspection_seen, introspection_writing}
use Rattle.oauth2_replies.specs.Token.{token_writing}
use Rattle.oauth2_replies.specs.declared.token.EmptyExtraTokenFields.{EmptyExtraTokenFields}
use Rattle.oauth2_wire.specs.declared.error.RequestTokenError.{RequestTokenError}
use Rattle.oauth2_request_commands.specs.Exchange.{token_data, token_json}
use Rattle.oauth2_request_commands.specs.DeviceAuthorization.{BasicDevice, device_data}
use Rattle.oauth2_request_commands.specs.DevicePoll.{device_error_members}
use Rattle.oauth2_request_commands.specs.Introspect.{BasicIntrospection, introspection_data}
use Rattle.oauth2_request_commands.specs.Out.{Output, success_output, members_text}
use Rattle.oauth2_request_commands.specs.Faults.{end_output}
use Rattle.oauth2_request_commands.specs.private.Results.{TokenSeen, token_meaning}
use Rattle.oauth2_request_commands.specs.private.Results.{ErrorResponse, error_seen, RevocationErrorResponse, revocation_error_seen}
use Rattle.oauth2_world.specs.declared.replay.NoReply.{NoReply}
use Rattle.oauth2_request_commands.proofs.NoFloats.{token_data-no_float, device_data-no_float, introspection_data-no_float}

-- ---- the answers and the errors of a server that uses no extension

abbrev pub DeviceSeen : Type 0
DeviceSeen = DeviceAuthorization EmptyExtraDeviceAuthorizationFields

abbrev pub device_meaning : DeviceSeen → BasicDevice
device_meaning r = device_seen (λ _. tt) r

abbrev pub IntrospectionSeen : Type 0
IntrospectionSeen = Introspection EmptyExtraTokenFields BasicTokenType

abbrev pub introspection_meaning : IntrospectionSeen → BasicIntrospection
introspection_meaning r = introspection_seen (λ _. tt) token_code r

abbrev pub DeviceErrorResponse : Type 0
DeviceErrorResponse = StandardErrorResponse DeviceCodeErrorResponseType

abbrev pub DeviceFault : Type 0
DeviceFault = RequestTokenError NoReply DeviceErrorResponse

abbrev pub device_error_seen : DeviceErrorResponse → ErrorParts (List ℕ)
device_error_seen e = device_error_members (parts_of device_error_code e)

abbrev pub poll_output : Result TokenSeen DeviceFault → Output
poll_output result = end_output device_error_seen (λ t. success_output (token_json (token_meaning t))) result

-- what is written of a response without extra fields
abbrev token_written : TokenSeen → Writing
token_written t = token_writing (λ _. Ok (object no_members)) (λ k. Ok (string (token_code_text (token_code k)))) t

pub token_written-data : (t : TokenSeen) → token_written t ≡ Ok (token_data (token_meaning t))
unfolding token_data
token_written-data t = refl

abbrev introspection_written : IntrospectionSeen → Writing
introspection_written r = introspection_writing (λ _. Ok (object no_members)) (λ k. Ok (string (token_code_text (token_code k)))) r

pub introspection_written-data : (r : IntrospectionSeen) → introspection_written r ≡ Ok (introspection_data (introspection_meaning r))
unfolding introspection_data
introspection_written-data r = by_type r.token_type refl
  where
    by_type : (t : Option BasicTokenType) → r.token_type ≡ t → introspection_written r ≡ Ok (introspection_data (introspection_meaning r))
    by_type None e = rw e refl
    by_type (Some k) e = rw e refl

abbrev device_written : DeviceSeen → Writing
device_written r = device_writing (λ _. Ok (object no_members)) r

pub device_written-data : (r : DeviceSeen) → device_written r ≡ Ok (device_data (device_meaning r))
unfolding device_data
device_written-data r = refl

-- what is written as `d`, which holds no float, is written without one
pub free_of : (written : Writing) (d : Data) → written ≡ Ok d → has_float d ≡ false → IsOkAnd written (λ d. has_float d ≡ false)
free_of written d e free = rw e free

pub token_free : (t : TokenSeen) → IsOkAnd (token_written t) (λ d. has_float d ≡ false)
token_free t = free_of (token_written t) (token_data (token_meaning t)) (token_written-data t) (token_data-no_float (token_meaning t))

pub introspection_free : (r : IntrospectionSeen) → IsOkAnd (introspection_written r) (λ d. has_float d ≡ false)
introspection_free r =
    free_of (introspection_written r) (introspection_data (introspection_meaning r)) (introspection_written-data r)
    (introspection_data-no_float (introspection_meaning r))

pub device_free : (r : DeviceSeen) → IsOkAnd (device_written r) (λ d. has_float d ≡ false)
device_free r = free_of (device_written r) (device_data (device_meaning r)) (device_written-data r) (device_data-no_float (device_meaning r))

-- how the server's error is shown
pub error_told : (e : ErrorResponse) → error_text (Some (error_code_text (error_code e.error))) (parts_of (λ t. t) e) ≡ Some (members_text (error_seen e))
error_told e = refl

pub device_error_told : (e : DeviceErrorResponse)
    → error_text (Some (device_error_code_text (device_error_code e.error))) (parts_of (λ t. t) e) ≡ Some (members_text (device_error_seen e))
device_error_told e = refl

pub revocation_error_told : (e : RevocationErrorResponse)
    → error_text (Some (revocation_error_code_text (revocation_error_code e.error))) (parts_of (λ t. t) e) ≡ Some (members_text (revocation_error_seen e))
revocation_error_told e = refl
