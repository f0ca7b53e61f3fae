-- Times (NumericDate of RFC 7519, 2): numbers of seconds since 1970-01-01T00:00:00Z, whole or not.
-- Here they are in nanoseconds.
use Rattle.std.specs.Prelude.{ℕ, ℤ, pos, neg_ℤ, ◌*ℤ◌, Bool, if◌then◌else◌, Ok, Err}
use Rattle.std.specs.Duration.{nanos_of_secs}
use Rattle.std.specs.Float.Ieee.{Float, nan, inf, fin}
use Rattle.serde_json.specs.Data.{Num, unsigned, negative, float, Data, null, boolean, number, string, array, object}
use Rattle.oauth2_times.specs.Instants.{is_instant}
use Rattle.oauth2_json.specs.Reading.{Reading, whole}
use Rattle.oauth2_json.specs.Values.{wrong_type}
use Rattle.oauth2_json.specs.declared.read.ParseCause.TheVariants as cause

-- the error for a time that `jiff` cannot hold
abbrev pub out_of_range : {A : Type 0} → Reading A
out_of_range = Err (whole cause.OutOfRange)

-- the moment that many nanoseconds after 1970 began, if `jiff` can hold it
abbrev pub moment : ℤ → Reading ℤ
moment n = if is_instant n then Ok n else out_of_range

-- the integer with this sign and this absolute value
abbrev pub signed : Bool → ℕ → ℤ
signed is_negative n = if is_negative then neg_ℤ (pos n) else pos n

-- the moment of a double of seconds: the nearest whole nanosecond; of two equally near, the even
-- one. `serde_json` holds a number with a fraction or an exponent as the nearest double.
abbrev pub float_time : Float → Reading ℤ
float_time nan = out_of_range
float_time (inf s) = out_of_range
float_time (fin s m e) = moment (signed s (nanos_of_secs (fin s m e)))

-- the moment of a JSON number of seconds, in nanoseconds
abbrev pub number_time : Num → Reading ℤ
number_time (unsigned n) = moment (pos n *ℤ pos 1_000_000_000)
number_time (negative z) = moment (z *ℤ pos 1_000_000_000)
number_time (float x) = float_time x

-- the moment of a JSON value, which has to be a number of seconds, in nanoseconds
abbrev pub time : Data → Reading ℤ
time null = wrong_type
time (boolean b) = wrong_type
time (number n) = number_time n
time (string s) = wrong_type
time (array ds) = wrong_type
time (object ms) = wrong_type
