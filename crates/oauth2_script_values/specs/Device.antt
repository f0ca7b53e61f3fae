-- A device authorization response in a script (RFC 8628, 3.2).
use Rattle.std.specs.Prelude.{ℕ, List, Ok, Err, if◌then◌else◌, codes}
use Rattle.std.specs.Str.{bytes_eq}
use Rattle.serde_json.specs.Data.{Data}
use Rattle.oauth2_json.specs.Reading.{Reading as JsonReading}
use Rattle.oauth2_json.specs.declared.read.ParseCause.{ParseCause}
use Rattle.oauth2_json.specs.declared.read.ParseCause.TheVariants as causes
use Rattle.oauth2_replies.specs.Device.{DeviceAuthorization, device_reading}
use Rattle.oauth2_replies.specs.Kept.{any_object}
use Rattle.oauth2_script_values.specs.Reading.{Step, Reading, bad, inside, to_member, end}
use Rattle.oauth2_script_values.specs.declared.script_cause.ScriptCause.{ScriptCause}
use Rattle.oauth2_script_values.specs.declared.script_cause.ScriptCause.TheVariants.{NotJson, NotObject, Missing, WrongType, OutOfRange, BadUrl, Excluded}

-- the cause of a fault in a response of the server
abbrev pub cause_of : ParseCause → ScriptCause
cause_of causes.NotJson = NotJson
cause_of causes.NotObject = NotObject
cause_of causes.Missing = Missing
cause_of causes.WrongType = WrongType
cause_of causes.NotWhole = WrongType
cause_of causes.OutOfRange = OutOfRange
cause_of causes.BadUrl = BadUrl
cause_of causes.BothNames = Excluded
cause_of causes.Refused = WrongType

-- the step to the member of a device authorization response that is at fault
unfoldable pub device_step : List ℕ → Step
device_step name =
    if bytes_eq name (codes "device_code") then to_member (codes "device_code")
    else (if bytes_eq name (codes "user_code") then to_member (codes "user_code")
    else (if bytes_eq name (codes "verification_uri") then to_member (codes "verification_uri")
    else (if bytes_eq name (codes "verification_url") then to_member (codes "verification_url")
    else (if bytes_eq name (codes "verification_uri_complete") then to_member (codes "verification_uri_complete")
    else (if bytes_eq name (codes "expires_in") then to_member (codes "expires_in")
    else (if bytes_eq name (codes "interval") then to_member (codes "interval")
    else end))))))

-- the response that was read, or the member of it that is at fault
abbrev pub device_read : {A : Type 0} → JsonReading A → Reading A
device_read (Ok device) = Ok device
device_read (Err fault) = inside (device_step fault.member) (bad (cause_of fault.cause))

-- a device authorization response (RFC 8628, 3.2); other members are ignored
abbrev pub device : Data → Reading (DeviceAuthorization (Unit {0}))
device d = device_read (device_reading any_object d)
