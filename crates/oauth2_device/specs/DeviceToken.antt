-- The request of a device for its token (RFC 8628, section 3.4).
use Rattle.std.specs.Prelude.{ℕ, ◌*◌, List, [], ◌∷◌, codes, None}
use Rattle.oauth2_urls.specs.Addressed.{Addressed}
use Rattle.oauth2_form.specs.Pairs.{Pair}
use Rattle.oauth2_wire.specs.Expected.{Configuration}
use Rattle.oauth2_replies.specs.Device.{DeviceAuthorization}
use Rattle.oauth2_requests.specs.Base.{Base, configuration_of}

-- the token request of a device: the client, the endpoint, the device code, its lifetime, the
-- interval between two requests, and the cap of the back-off after failed calls; lengths in
-- nanoseconds
pub record DeviceToken : Type 0 where
  pub base : Base
  pub token_url : Addressed
  pub device_code : List ℕ
  pub lifetime : ℕ
  pub interval : ℕ
  pub max_backoff_interval : ℕ

-- the token request of a device, with a clock
pub record Clocked (T : Type 0) : Type 0 where
  pub request : DeviceToken
  pub time_fn : T

-- n seconds, in nanoseconds
abbrev pub nanos_of_seconds : ℕ → ℕ
nanos_of_seconds n = n * 1_000_000_000

-- the token request of a device that received this response (RFC 8628, 3.2); the cap is ten seconds
abbrev pub new_device_token : {EF : Type 0} → Base → Addressed → DeviceAuthorization EF
    → DeviceToken
new_device_token base token_url response = record {
  base = base;
  token_url = token_url;
  device_code = response.device_code;
  lifetime = nanos_of_seconds response.expires_in;
  interval = nanos_of_seconds response.interval;
  max_backoff_interval = nanos_of_seconds 10;
}

-- the grant type and the device code (RFC 8628, 3.4)
abbrev pub device_token_pairs : List ℕ → List Pair
device_token_pairs device_code =
    (codes "grant_type", codes "urn:ietf:params:oauth:grant-type:device_code")
    ∷ (codes "device_code", device_code)
    ∷ []

-- what each request of the poll sends
abbrev pub device_token_configuration : DeviceToken → Configuration
device_token_configuration r = configuration_of r.base (device_token_pairs r.device_code) None
