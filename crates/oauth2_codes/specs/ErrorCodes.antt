-- The codes of error responses and their texts.
use Rattle.std.specs.Prelude.{ℕ, List, [], ◌∷◌, Ok, codes, string_bytes}
use Rattle.serde_json.specs.Data.{Data}
use Rattle.oauth2_json.specs.Reading.{Reading, read_then}
use Rattle.oauth2_json.specs.Values.{text}
use Rattle.oauth2_codes.specs.Codes.{code_in}
use Rattle.oauth2_codes.specs.declared.basic_error.BasicErrorResponseType.{BasicErrorResponseType}
use Rattle.oauth2_codes.specs.declared.basic_error.BasicErrorResponseType.TheVariants as basics
use Rattle.oauth2_codes.specs.declared.device_error.DeviceCodeErrorResponseType.{DeviceCodeErrorResponseType}
use Rattle.oauth2_codes.specs.declared.device_error.DeviceCodeErrorResponseType.TheVariants as devices
use Rattle.oauth2_codes.specs.declared.revocation_error.RevocationErrorResponseType.{RevocationErrorResponseType}
use Rattle.oauth2_codes.specs.declared.revocation_error.RevocationErrorResponseType.TheVariants as revocations

-- the code of a token endpoint's error, without its place in memory (RFC 6749, 5.2)
pub data ErrorCode : Type 0 where
  invalid_client : ErrorCode
  invalid_grant : ErrorCode
  invalid_request : ErrorCode
  invalid_scope : ErrorCode
  unauthorized_client : ErrorCode
  unsupported_grant_type : ErrorCode
  extension : List ℕ → ErrorCode

-- the code of an error type; the text of an `Extension` becomes its bytes
abbrev pub error_code : BasicErrorResponseType → ErrorCode
error_code basics.InvalidClient = invalid_client
error_code basics.InvalidGrant = invalid_grant
error_code basics.InvalidRequest = invalid_request
error_code basics.InvalidScope = invalid_scope
error_code basics.UnauthorizedClient = unauthorized_client
error_code basics.UnsupportedGrantType = unsupported_grant_type
error_code (basics.Extension s) = extension (string_bytes s)

-- the codes of the token endpoint's errors and their texts (RFC 6749, 5.2)
abbrev pub error_codes : List (List ℕ × ErrorCode)
error_codes =
    (codes "invalid_client", invalid_client)
    ∷ (codes "invalid_grant", invalid_grant)
    ∷ (codes "invalid_request", invalid_request)
    ∷ (codes "invalid_scope", invalid_scope)
    ∷ (codes "unauthorized_client", unauthorized_client)
    ∷ (codes "unsupported_grant_type", unsupported_grant_type)
    ∷ []

-- the code that a text names; a text outside the table is an extension
abbrev pub error_code_of : List ℕ → ErrorCode
error_code_of s = code_in error_codes (extension s) s

-- the text of a code, as the server sends it
abbrev pub error_code_text : ErrorCode → List ℕ
error_code_text invalid_client = codes "invalid_client"
error_code_text invalid_grant = codes "invalid_grant"
error_code_text invalid_request = codes "invalid_request"
error_code_text invalid_scope = codes "invalid_scope"
error_code_text unauthorized_client = codes "unauthorized_client"
error_code_text unsupported_grant_type = codes "unsupported_grant_type"
error_code_text (extension s) = s

-- reads a JSON string as the code that it names; any other JSON value is of the wrong type
abbrev pub error_code_reading : Data → Reading ErrorCode
error_code_reading d = read_then (text d) (λ s. Ok (error_code_of s))

-- the code that the text of `c` names: an extension with the text "invalid_grant" is that code
abbrev pub error_canonical : ErrorCode → ErrorCode
error_canonical c = error_code_of (error_code_text c)

-- the code of an error while a device polls, without its place in memory (RFC 8628, 3.5)
pub data DeviceErrorCode : Type 0 where
  authorization_pending : DeviceErrorCode
  slow_down : DeviceErrorCode
  access_denied : DeviceErrorCode
  expired_token : DeviceErrorCode
  basic : ErrorCode → DeviceErrorCode

-- the code of an error type
abbrev pub device_error_code : DeviceCodeErrorResponseType → DeviceErrorCode
device_error_code devices.AuthorizationPending = authorization_pending
device_error_code devices.SlowDown = slow_down
device_error_code devices.AccessDenied = access_denied
device_error_code devices.ExpiredToken = expired_token
device_error_code (devices.Basic e) = basic (error_code e)

-- the codes that RFC 8628, 3.5, adds to those of RFC 6749, 5.2, and their texts
abbrev pub device_error_codes : List (List ℕ × DeviceErrorCode)
device_error_codes =
    (codes "authorization_pending", authorization_pending)
    ∷ (codes "slow_down", slow_down)
    ∷ (codes "access_denied", access_denied)
    ∷ (codes "expired_token", expired_token)
    ∷ []

-- the code that a text names; a text outside this table is read by `error_code_of`
abbrev pub device_error_code_of : List ℕ → DeviceErrorCode
device_error_code_of s = code_in device_error_codes (basic (error_code_of s)) s

-- the text of a code, as the server sends it
abbrev pub device_error_code_text : DeviceErrorCode → List ℕ
device_error_code_text authorization_pending = codes "authorization_pending"
device_error_code_text slow_down = codes "slow_down"
device_error_code_text access_denied = codes "access_denied"
device_error_code_text expired_token = codes "expired_token"
device_error_code_text (basic e) = error_code_text e

-- reads a JSON string as the code that it names; any other JSON value is of the wrong type
abbrev pub device_error_code_reading : Data → Reading DeviceErrorCode
device_error_code_reading d = read_then (text d) (λ s. Ok (device_error_code_of s))

-- the code that the text of `c` names
abbrev pub device_error_canonical : DeviceErrorCode → DeviceErrorCode
device_error_canonical c = device_error_code_of (device_error_code_text c)

-- the code of a revocation endpoint's error, without its place in memory (RFC 7009, 2.2.1)
pub data RevocationErrorCode : Type 0 where
  unsupported_token_type : RevocationErrorCode
  basic : ErrorCode → RevocationErrorCode

-- the code of an error type
abbrev pub revocation_error_code : RevocationErrorResponseType → RevocationErrorCode
revocation_error_code revocations.UnsupportedTokenType = unsupported_token_type
revocation_error_code (revocations.Basic e) = basic (error_code e)

-- the code that RFC 7009, 2.2.1, adds to those of RFC 6749, 5.2, and its text
abbrev pub revocation_error_codes : List (List ℕ × RevocationErrorCode)
revocation_error_codes =
    (codes "unsupported_token_type", unsupported_token_type)
    ∷ []

-- the code that a text names; a text outside this table is read by `error_code_of`
abbrev pub revocation_error_code_of : List ℕ → RevocationErrorCode
revocation_error_code_of s = code_in revocation_error_codes (basic (error_code_of s)) s

-- the text of a code, as the server sends it
abbrev pub revocation_error_code_text : RevocationErrorCode → List ℕ
revocation_error_code_text unsupported_token_type = codes "unsupported_token_type"
revocation_error_code_text (basic e) = error_code_text e

-- reads a JSON string as the code that it names; any other JSON value is of the wrong type
abbrev pub revocation_error_code_reading : Data → Reading RevocationErrorCode
revocation_error_code_reading d = read_then (text d) (λ s. Ok (revocation_error_code_of s))

-- the code that the text of `c` names
abbrev pub revocation_error_canonical : RevocationErrorCode → RevocationErrorCode
revocation_error_canonical c = revocation_error_code_of (revocation_error_code_text c)
