-- A client with the endpoints of the metadata.
use Rattle.std.specs.Prelude.{◌≡◌, ◌⊎◌, ℕ, List, ◌++◌, codes, Option, Some, None, option_map, Result, Ok, Err}
use Rattle.std.specs.Option.{option_or}
use Rattle.oauth2.specs.Settings.{Settings}
use Rattle.oauth2_urls.specs.Addressed.{Addressed}
use Rattle.oauth2_metadata.specs.EndpointFault.{endpoint_fault, fault_text, member_name}
use Rattle.oauth2_metadata.specs.Metadata.{EndpointMembers}
use Rattle.oauth2_metadata.specs.declared.endpoint_fault.Endpoint.{Endpoint}
use Rattle.oauth2_metadata.specs.declared.endpoint_fault.Endpoint.TheVariants.{Authorization, Token, DeviceAuthorization}
use Rattle.oauth2_metadata.specs.declared.endpoint_error.EndpointError.{EndpointError}
use Rattle.oauth2_metadata.specs.declared.endpoint_error.EndpointError.TheVariants.{Refused, Missing, Memory}

-- the client with the endpoints of the metadata; those that the metadata does not have are not set
abbrev pub with_endpoints : EndpointMembers → Settings → Settings
with_endpoints m client = record client {
  auth_url = m.authorization_endpoint;
  device_authorization_url = m.device_authorization_endpoint;
  introspection_url = m.introspection_endpoint;
  revocation_url = m.revocation_endpoint;
  token_url = m.token_endpoint;
}

-- ---- a client for a task

-- the error if a task needs this endpoint and the metadata does not have it
abbrev pub missing : Endpoint → Option Addressed → Option EndpointError
missing endpoint None = Some (Missing endpoint)
missing endpoint (Some url) = None

-- why a task is refused: an endpoint that a client may not call, or else one that is missing
abbrev pub task_refusal : EndpointMembers → Option EndpointError → Option EndpointError
task_refusal m lacks = option_or (option_map Refused (endpoint_fault m)) lacks

-- why a login by a code is refused: it needs the authorization and the token endpoint (RFC 6749,
-- 4.1)
abbrev pub login_refusal : EndpointMembers → Option EndpointError
login_refusal m =
    task_refusal m
    (option_or (missing Authorization m.authorization_endpoint) (missing Token m.token_endpoint))

-- why a keeper of a token is refused: it needs the token endpoint (RFC 6749, 4.4 and 6)
abbrev pub token_refusal : EndpointMembers → Option EndpointError
token_refusal m = task_refusal m (missing Token m.token_endpoint)

-- why a login on another device is refused: it needs the device authorization and the token
-- endpoint (RFC 8628)
abbrev pub device_refusal : EndpointMembers → Option EndpointError
device_refusal m =
    task_refusal m
    (option_or (missing DeviceAuthorization m.device_authorization_endpoint) (missing Token m.token_endpoint))

-- the result for a task: the client, if nothing refuses the task; else the refusal; or `Memory`
abbrev pub IsClientOf : Option EndpointError → EndpointMembers → Settings
    → Result Settings EndpointError → Type 0
IsClientOf refusal m client (Ok found) = (refusal ≡ None) × (found ≡ with_endpoints m client)
IsClientOf refusal m client (Err error) =
    (refusal ≡ Some error) ⊎ ((refusal ≡ None) × (error ≡ Memory))

-- the text that `Display` writes of an error
abbrev pub endpoint_error_text : EndpointError → List ℕ
endpoint_error_text (Refused fault) = fault_text fault
endpoint_error_text (Missing endpoint) = codes "metadata has no " ++ member_name endpoint
endpoint_error_text Memory = codes "Out of memory"
