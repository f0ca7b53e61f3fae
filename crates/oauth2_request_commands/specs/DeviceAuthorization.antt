-- The command `device_authorization`: a device asks for its codes (RFC 8628, 3.1).
use Rattle.std.specs.Prelude.{ℕ, List, None, codes}
use Rattle.serde_json.specs.Data.{Data, object, no_members}
use Rattle.serde_json.specs.Written.{compact_text}
use Rattle.oauth2_codes.specs.ErrorCodes.{ErrorCode, error_code_text, error_code_reading}
use Rattle.oauth2_codes.specs.ErrorResponse.{ErrorParts, error_reading}
use Rattle.oauth2_json.specs.Puts.{put_all}
use Rattle.oauth2_replies.specs.Device.{DeviceAuthorization, device_reading, device_rows}
use Rattle.oauth2_replies.specs.Kept.{any_object}
use Rattle.oauth2_urls.specs.Addressed.{Addressed}
use Rattle.oauth2_wire.specs.declared.content_type.ReplyRule.{ReplyRule}
use Rattle.oauth2_wire.specs.Expected.{Configuration}
use Rattle.oauth2_form.specs.Params.{with_scopes}
use Rattle.oauth2_wire.specs.Reply.{Answer, ReplyView, answer_of}
use Rattle.oauth2.specs.NewRequest.{base_of}
use Rattle.oauth2.specs.Settings.{Settings}
use Rattle.oauth2_requests.specs.DeviceAuthorization.{DeviceRequest, device_authorization_configuration}
use Rattle.oauth2_request_commands.specs.Client.{WithEndpoint}
use Rattle.oauth2_request_commands.specs.Exchange.{IsPostShown, error_members}
use Rattle.oauth2_request_commands.specs.Out.{Output}
use Rattle.oauth2_script.specs.DeviceAuthorizationParams.{DeviceAuthorizationParams}
use Rattle.oauth2_script.specs.Replies.{Reply}

-- the device authorization request with the scopes and the extra parameters (RFC 8628, 3.1)
abbrev pub device_request : Settings → DeviceAuthorizationParams → Addressed → DeviceRequest
device_request client p url = record {
  base =
      record (base_of client) { scope = with_scopes None p.scopes; extra_params = p.extra_params };
  device_authorization_url = url;
}

-- a device authorization response without extension members (RFC 8628, 3.2)
abbrev pub BasicDevice : Type 0
BasicDevice = DeviceAuthorization (Unit {0})

-- a device authorization response as a JSON object; absent members are left out
unfoldable pub device_data : BasicDevice → Data
device_data r = object (put_all (device_rows r) no_members)

-- a device authorization response as compact JSON
unfoldable pub device_json : BasicDevice → List ℕ
device_json r = compact_text (device_data r)

-- what a reply to a device authorization request says: codes, or an error (RFC 6749, 5.2)
abbrev pub device_authorization_answer : ReplyRule → ReplyView
    → Answer BasicDevice (ErrorParts ErrorCode)
device_authorization_answer rule =
    answer_of rule (device_reading any_object) (error_reading error_code_reading)

-- the output of a device authorization request: the request, and the response or the fault
abbrev pub IsDeviceAuthorized : ReplyRule → Configuration → Addressed → List Reply → Output → Type 0
IsDeviceAuthorized rule =
    IsPostShown device_json (error_members error_code_text) (device_authorization_answer rule)

-- the output of `device_authorization`: that of its request, or that the endpoint is missing
abbrev pub IsDeviceAuthorizationOutput : Settings → DeviceAuthorizationParams → List Reply → Output
    → Type 0
IsDeviceAuthorizationOutput client p replies o =
    WithEndpoint (codes "device authorization")
    (λ url o. IsDeviceAuthorized client.reply_rule (device_authorization_configuration (device_request client p url)) url replies o)
    client.device_authorization_url o
