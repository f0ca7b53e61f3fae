-- The device authorization request (RFC 8628, section 3.1).
use Rattle.std.specs.Prelude.{[], None}
use Rattle.oauth2_urls.specs.Addressed.{Addressed}
use Rattle.oauth2_wire.specs.Expected.{Configuration}
use Rattle.oauth2_requests.specs.Base.{Base, configuration_of}

-- a device authorization request and its endpoint (RFC 8628, 3.1)
pub record DeviceRequest : Type 0 where
  pub base : Base
  pub device_authorization_url : Addressed

-- what this request sends: the client, the scopes and the extra parameters, and no other pair
abbrev pub device_authorization_configuration : DeviceRequest → Configuration
device_authorization_configuration r = configuration_of r.base [] None
