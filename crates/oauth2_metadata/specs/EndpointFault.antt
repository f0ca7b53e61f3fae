-- Which endpoints of metadata a client may call.
use Rattle.std.specs.Prelude.{ℕ, List, ◌++◌, codes, Bool, true, false, not, ◌&&◌, Option, Some, None, is_some, option_map, if◌then◌else◌}
use Rattle.std.specs.Option.{option_or, option_and_then}
use Rattle.url.specs.Parts.{Parts}
use Rattle.oauth2_urls.specs.Addressed.{Addressed}
use Rattle.oauth2_metadata.specs.Issuer.{is_secure}
use Rattle.oauth2_metadata.specs.Metadata.{EndpointMembers}
use Rattle.oauth2_metadata.specs.declared.endpoint_fault.Endpoint.{Endpoint}
use Rattle.oauth2_metadata.specs.declared.endpoint_fault.Endpoint.TheVariants.{Authorization, Token, DeviceAuthorization, Introspection, Revocation}
use Rattle.oauth2_metadata.specs.declared.endpoint_fault.EndpointCause.{EndpointCause}
use Rattle.oauth2_metadata.specs.declared.endpoint_fault.EndpointCause.TheVariants.{NotHttps, HasFragment}
use Rattle.oauth2_metadata.specs.declared.endpoint_fault.EndpointFault.{EndpointFault}

-- the URL may have no fragment (RFC 6749, 3.1 and 3.2; RFC 7009, 2, which takes the rules of 3.1)
abbrev pub forbids_fragment : Endpoint → Bool
forbids_fragment Authorization = true
forbids_fragment Token = true
forbids_fragment Revocation = true
forbids_fragment DeviceAuthorization = false
forbids_fragment Introspection = false

-- why a client may not call the URL: each endpoint must be `https`, or `http` with a loopback host
-- (RFC 6749, 3.1 and 3.2; RFC 7009, 2; RFC 7662, 2; RFC 8628, 3.1)
abbrev pub cause_of : Endpoint → Parts → Option EndpointCause
cause_of endpoint url =
    if not (is_secure url) then Some NotHttps
    else (if forbids_fragment endpoint && is_some url.fragment then Some HasFragment else None)

-- the fault of an endpoint with this URL: why a client may not call it; `None` if there is no URL
abbrev pub fault_of : Endpoint → Option Parts → Option EndpointFault
fault_of endpoint url =
    option_map (λ cause. record { endpoint = endpoint; cause = cause }) (option_and_then (cause_of endpoint) url)

-- the parsed URL of an endpoint, if it is there
abbrev pub url_of : Option Addressed → Option Parts
url_of endpoint = option_map (λ a. a.url) endpoint

-- the parsed URL of this endpoint of the metadata, if it is there
abbrev pub url_at : Endpoint → EndpointMembers → Option Parts
url_at Authorization m = url_of m.authorization_endpoint
url_at Token m = url_of m.token_endpoint
url_at DeviceAuthorization m = url_of m.device_authorization_endpoint
url_at Introspection m = url_of m.introspection_endpoint
url_at Revocation m = url_of m.revocation_endpoint

-- the fault of this endpoint of the metadata, if it has one
abbrev pub fault_at : Endpoint → EndpointMembers → Option EndpointFault
fault_at endpoint m = fault_of endpoint (url_at endpoint m)

-- the first endpoint of the metadata, in this order, that a client may not call, and why
abbrev pub endpoint_fault : EndpointMembers → Option EndpointFault
endpoint_fault m =
    option_or
    (option_or (option_or (option_or (fault_at Authorization m) (fault_at Token m)) (fault_at DeviceAuthorization m)) (fault_at Introspection m))
    (fault_at Revocation m)

-- ---- texts

-- the name of an endpoint's member of the metadata (RFC 8414, 2; RFC 8628, 4)
abbrev pub member_name : Endpoint → List ℕ
member_name Authorization = codes "authorization_endpoint"
member_name Token = codes "token_endpoint"
member_name DeviceAuthorization = codes "device_authorization_endpoint"
member_name Introspection = codes "introspection_endpoint"
member_name Revocation = codes "revocation_endpoint"

-- the text of the reason why a client may not call an endpoint
abbrev pub cause_text : EndpointCause → List ℕ
cause_text NotHttps = codes "not an https URL"
cause_text HasFragment = codes "a URL with a fragment"

-- the text of a fault: the name of the endpoint's member, and the reason
abbrev pub fault_text : EndpointFault → List ℕ
fault_text fault = member_name fault.endpoint ++ codes ": " ++ cause_text fault.cause
