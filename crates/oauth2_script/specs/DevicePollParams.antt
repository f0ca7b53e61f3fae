-- The parameters of the command `device_poll`.
use Rattle.std.specs.Prelude.{ℕ, List, Option, Ok, codes}
use Rattle.serde_json.specs.Data.{Data}
use Rattle.oauth2_replies.specs.Device.{DeviceAuthorization}
use Rattle.oauth2_script_values.specs.Device.{device}
use Rattle.oauth2_script_values.specs.Reading.{Reading, ◌>>=◌}
use Rattle.oauth2_script_values.specs.Part.{needed_part, present_part, count, duration}
use Rattle.oauth2_script.specs.Sent.{sent_params}

-- the parameters of a poll for a token (RFC 8628, 3.4); lengths of time in nanoseconds
pub record DevicePollParams : Type 0 where
  -- the response that the device got
  pub device : DeviceAuthorization (Unit {0})
  -- how many requests the poll makes at most
  pub max_polls : ℕ
  -- how long the poll goes on
  pub timeout : Option ℕ
  -- the longest wait to which failed calls double it
  pub cap : Option ℕ
  pub extra_params : List (List ℕ × List ℕ)

-- reads `params`; `device` and `max_polls` have to be present
unfoldable pub device_poll_params : Data → Reading DevicePollParams
device_poll_params d = do
  device ← needed_part device (codes "device") d
  max_polls ← needed_part count (codes "max_polls") d
  timeout ← present_part duration (codes "timeout") d
  cap ← present_part duration (codes "cap") d
  extra_params ← sent_params d
  Ok (record { device = device; max_polls = max_polls; timeout = timeout; cap = cap; extra_params = extra_params })
