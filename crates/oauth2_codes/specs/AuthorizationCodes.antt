-- The codes of the authorization endpoint's errors and their texts (RFC 6749, 4.1.2.1).
use Rattle.std.specs.Prelude.{ℕ, List, [], ◌∷◌, Ok, codes, string_bytes}
use Rattle.serde_json.specs.Data.{Data}
use Rattle.oauth2_json.specs.Reading.{Reading, read_then}
use Rattle.oauth2_json.specs.Values.{text}
use Rattle.oauth2_codes.specs.Codes.{code_in}
use Rattle.oauth2_codes.specs.declared.authorization_error.AuthorizationErrorResponseType.{AuthorizationErrorResponseType}
use Rattle.oauth2_codes.specs.declared.authorization_error.AuthorizationErrorResponseType.TheVariants as variants

-- the code of an authorization endpoint's error, without its place in memory (RFC 6749, 4.1.2.1)
pub data AuthorizationErrorCode : Type 0 where
  access_denied : AuthorizationErrorCode
  invalid_request : AuthorizationErrorCode
  invalid_scope : AuthorizationErrorCode
  server_error : AuthorizationErrorCode
  temporarily_unavailable : AuthorizationErrorCode
  unauthorized_client : AuthorizationErrorCode
  unsupported_response_type : AuthorizationErrorCode
  extension : List ℕ → AuthorizationErrorCode

-- the code of an error type; the text of an `Extension` becomes its bytes
abbrev pub authorization_error_code : AuthorizationErrorResponseType → AuthorizationErrorCode
authorization_error_code variants.AccessDenied = access_denied
authorization_error_code variants.InvalidRequest = invalid_request
authorization_error_code variants.InvalidScope = invalid_scope
authorization_error_code variants.ServerError = server_error
authorization_error_code variants.TemporarilyUnavailable = temporarily_unavailable
authorization_error_code variants.UnauthorizedClient = unauthorized_client
authorization_error_code variants.UnsupportedResponseType = unsupported_response_type
authorization_error_code (variants.Extension s) = extension (string_bytes s)

-- the codes of the authorization endpoint's errors and their texts (RFC 6749, 4.1.2.1)
abbrev pub authorization_error_codes : List (List ℕ × AuthorizationErrorCode)
authorization_error_codes =
    (codes "access_denied", access_denied)
    ∷ (codes "invalid_request", invalid_request)
    ∷ (codes "invalid_scope", invalid_scope)
    ∷ (codes "server_error", server_error)
    ∷ (codes "temporarily_unavailable", temporarily_unavailable)
    ∷ (codes "unauthorized_client", unauthorized_client)
    ∷ (codes "unsupported_response_type", unsupported_response_type)
    ∷ []

-- the code that a text names; a text outside the table is an extension
abbrev pub authorization_error_code_of : List ℕ → AuthorizationErrorCode
authorization_error_code_of s = code_in authorization_error_codes (extension s) s

-- the text of a code, as the server sends it
abbrev pub authorization_error_code_text : AuthorizationErrorCode → List ℕ
authorization_error_code_text access_denied = codes "access_denied"
authorization_error_code_text invalid_request = codes "invalid_request"
authorization_error_code_text invalid_scope = codes "invalid_scope"
authorization_error_code_text server_error = codes "server_error"
authorization_error_code_text temporarily_unavailable = codes "temporarily_unavailable"
authorization_error_code_text unauthorized_client = codes "unauthorized_client"
authorization_error_code_text unsupported_response_type = codes "unsupported_response_type"
authorization_error_code_text (extension s) = s

-- reads a JSON string as the code that it names; any other JSON value is of the wrong type
abbrev pub authorization_error_code_reading : Data → Reading AuthorizationErrorCode
authorization_error_code_reading d = read_then (text d) (λ s. Ok (authorization_error_code_of s))

-- the code that the text of `c` names: an extension with the text "access_denied" is that code
abbrev pub authorization_error_canonical : AuthorizationErrorCode → AuthorizationErrorCode
authorization_error_canonical c = authorization_error_code_of (authorization_error_code_text c)
