-- The responses of a client with its own types, and what its requests return.
use Rattle.std.specs.Prelude.{ℕ, List, Result}
use Rattle.serde_json.specs.Data.{Data}
use Rattle.url.specs.Parts.{serialize}
use Rattle.oauth2_json.specs.Reading.{Reading}
use Rattle.oauth2_urls.specs.Addressed.{Addressed}
use Rattle.oauth2_codes.specs.declared.error_response.StandardErrorResponse.{StandardErrorResponse}
use Rattle.oauth2_codes.specs.ErrorResponse.{ErrorParts, parts_of, error_reading as response_reading}
use Rattle.oauth2_replies.specs.Device.{DeviceAuthorization, device_seen, device_reading}
use Rattle.oauth2_introspection.specs.Introspection.{Introspection, introspection_seen, introspection_reading}
use Rattle.oauth2_replies.specs.Token.{Token, token_seen, token_reading}
use Rattle.oauth2_wire.specs.declared.content_type.ReplyRule.{ReplyRule}
use Rattle.oauth2_wire.specs.declared.error.RequestTokenError.{RequestTokenError}
use Rattle.oauth2_wire.specs.Expected.{Configuration}
use Rattle.oauth2_wire.specs.Once.{AsksOnce}
use Rattle.oauth2_wire.specs.Request.{HttpRequest, IsRequestOf}
use Rattle.oauth2_wire.specs.Reply.{HttpResponse, answer_of, status_answer_of}
use Rattle.oauth2_device.specs.DeviceToken.{DeviceToken}
use Rattle.oauth2_device.specs.Events.{PollCall}
use Rattle.oauth2_device.specs.Poll.{PollError, Polls}
use Rattle.oauth2_callers.specs.declared.own_types.colorful_error.ColorfulErrorResponseType.{ColorfulErrorResponseType}
use Rattle.oauth2_callers.specs.declared.own_types.colorful_fields.ColorfulFields.{ColorfulFields}
use Rattle.oauth2_callers.specs.declared.own_types.colorful_token_type.ColorfulTokenType.{ColorfulTokenType}
use Rattle.oauth2_callers.specs.declared.own_types.custom_error.CustomErrorResponse.{CustomErrorResponse}
use Rattle.oauth2_callers.specs.own_types.ColorErrors.{color_error_reading}
use Rattle.oauth2_callers.specs.own_types.Colors.{color_reading}
use Rattle.oauth2_callers.specs.own_types.CustomError.{custom_reading, custom_seen}
use Rattle.oauth2_callers.specs.own_types.Fields.{Fields, fields_seen, fields_reading}

-- ---- the responses of this server: their types, their values, and how JSON is read as them

-- a token response with this server's extra fields and token types (RFC 6749, 5.1)
abbrev pub ColorfulToken : Type 0
ColorfulToken = Token ColorfulFields ColorfulTokenType

-- the value of a token response, without its place in memory
abbrev pub colorful_token_seen : ColorfulToken → Token Fields ColorfulTokenType
colorful_token_seen token = token_seen fields_seen (λ color. color) token

-- a JSON value read as a token response of this server
abbrev pub colorful_token_reading : Data → Reading (Token Fields ColorfulTokenType)
colorful_token_reading d = token_reading fields_reading color_reading d

-- an introspection response with this server's extra fields and token types (RFC 7662, 2.2)
abbrev pub ColorfulIntrospection : Type 0
ColorfulIntrospection = Introspection ColorfulFields ColorfulTokenType

-- the value of an introspection response, without its place in memory
abbrev pub colorful_introspection_seen : ColorfulIntrospection
    → Introspection Fields ColorfulTokenType
colorful_introspection_seen response = introspection_seen fields_seen (λ color. color) response

-- a JSON value read as an introspection response of this server
abbrev pub colorful_introspection_reading : Data → Reading (Introspection Fields ColorfulTokenType)
colorful_introspection_reading d = introspection_reading fields_reading color_reading d

-- the standard's error response with this server's error codes (RFC 6749, 5.2)
abbrev pub ColorfulError : Type 0
ColorfulError = StandardErrorResponse ColorfulErrorResponseType

-- the value of an error response, without its place in memory
abbrev pub colorful_error_seen : ColorfulError → ErrorParts ColorfulErrorResponseType
colorful_error_seen response = parts_of (λ error. error) response

-- a JSON value read as an error response of this server
abbrev pub colorful_error_reading : Data → Reading (ErrorParts ColorfulErrorResponseType)
colorful_error_reading d = response_reading color_error_reading d

-- ---- one call: its request is sent once, and `result` is what the reply says or the HTTP client's
-- error; a request that cannot be prepared is not sent, and `result` says why

module _ {RE C : Type 0} (step : C → HttpRequest → Result HttpResponse RE → C → Type 0) (rule : ReplyRule) (configuration : Configuration) (endpoint : Addressed) (before : C) where
  -- a call for a token
  abbrev pub AsksForToken : Result ColorfulToken (RequestTokenError RE ColorfulError) → C → Type 0
  AsksForToken result after =
      AsksOnce colorful_token_seen colorful_error_seen step
      (answer_of rule colorful_token_reading colorful_error_reading)
      (IsRequestOf configuration) (serialize endpoint.url) before result after

  -- a call for a token, at a server with custom error responses
  abbrev pub AsksForCustomToken : Result ColorfulToken (RequestTokenError RE CustomErrorResponse)
      → C → Type 0
  AsksForCustomToken result after =
      AsksOnce colorful_token_seen custom_seen step
      (answer_of rule colorful_token_reading custom_reading)
      (IsRequestOf configuration) (serialize endpoint.url) before result after

  -- a call for an introspection (RFC 7662, 2.1)
  abbrev pub AsksForIntrospection : Result ColorfulIntrospection (RequestTokenError RE ColorfulError)
      → C → Type 0
  AsksForIntrospection result after =
      AsksOnce colorful_introspection_seen colorful_error_seen step
      (answer_of rule colorful_introspection_reading colorful_error_reading)
      (IsRequestOf configuration) (serialize endpoint.url) before result after

  -- a call for the codes of a device (RFC 8628, 3.1)
  abbrev pub AsksForCodes : Result (DeviceAuthorization ColorfulFields) (RequestTokenError RE ColorfulError)
      → C → Type 0
  AsksForCodes result after =
      AsksOnce (device_seen fields_seen) colorful_error_seen step
      (answer_of rule (device_reading fields_reading) colorful_error_reading)
      (IsRequestOf configuration) (serialize endpoint.url) before result after

module _ {RE C : Type 0} (step : C → HttpRequest → Result HttpResponse RE → C → Type 0) (configuration : Configuration) (endpoint : Addressed) (before : C) where
  -- a call for a revocation; its success depends only on the reply's status (RFC 7009, 2.2)
  abbrev pub AsksForRevocation : Result Unit (RequestTokenError RE ColorfulError) → C → Type 0
  AsksForRevocation result after =
      AsksOnce (λ done. done) colorful_error_seen step (status_answer_of colorful_error_reading)
      (IsRequestOf configuration) (serialize endpoint.url) before result after

-- the events `e` and the result of a device's poll for a token, until its code expires
abbrev pub PollsForToken : {RE : Type 0} → DeviceToken → ℕ → List (PollCall RE)
    → Result ColorfulToken (PollError RE) → Type 0
PollsForToken request max_polls e result =
    Polls colorful_token_seen colorful_token_reading request request.lifetime max_polls e result
