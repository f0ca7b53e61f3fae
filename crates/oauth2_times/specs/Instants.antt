-- Times in JSON (RFC 7662, 2.2): whole seconds since 1970-01-01T00:00:00Z. In contracts a time is
-- in nanoseconds since then.
use Rattle.std.specs.Prelude.{◌≡◌, ℤ, pos, neg_ℤ, ◌*ℤ◌, int_lt, not, ◌&&◌, Bool, if◌then◌else◌, Ok, Err}
use Rattle.std.specs.Int.{int_div_euclid}
use Rattle.serde_json.specs.Data.{Num, unsigned, negative, float, Data, null, boolean, number, string, array, object}
use Rattle.serde_json.specs.Find.{of_integer}
use Rattle.oauth2_json.specs.Reading.{Reading, whole}
use Rattle.oauth2_json.specs.Values.{wrong_type}
use Rattle.oauth2_json.specs.declared.read.ParseCause.TheVariants as cause

-- whether `n` nanoseconds since 1970-01-01T00:00:00Z are in the range of `Timestamp` of `jiff`
abbrev pub is_instant : ℤ → Bool
is_instant n =
    not (int_lt n (neg_ℤ (pos 377_705_023_201_000_000_000))) && not (int_lt (pos 253_402_207_200_999_999_999) n)

-- the time `z` seconds after 1970-01-01T00:00:00Z, in nanoseconds, or `OutOfRange`
abbrev pub instant_at : ℤ → Reading ℤ
instant_at z =
    if is_instant (z *ℤ pos 1_000_000_000) then Ok (z *ℤ pos 1_000_000_000) else Err (whole cause.OutOfRange)

-- the time of a number of seconds; a number that `serde_json` holds as a float is `NotWhole`
abbrev pub instant_of : Num → Reading ℤ
instant_of (unsigned n) = instant_at (pos n)
instant_of (negative z) = instant_at z
instant_of (float x) = Err (whole cause.NotWhole)

-- reads a JSON number of seconds as a time in nanoseconds; any other value is of the wrong type
abbrev pub instant : Data → Reading ℤ
instant null = wrong_type
instant (boolean b) = wrong_type
instant (number n) = instant_of n
instant (string s) = wrong_type
instant (array ds) = wrong_type
instant (object ms) = wrong_type

-- the whole seconds of a time in nanoseconds, rounded down
abbrev pub second_of : ℤ → ℤ
second_of n = int_div_euclid n (pos 1_000_000_000)

-- the time `n`, in nanoseconds, is a whole number of seconds
abbrev pub IsWholeSeconds : ℤ → Type 0
IsWholeSeconds n = (z : ℤ) × (n ≡ z *ℤ pos 1_000_000_000)

-- the JSON number for a time in nanoseconds: its whole seconds, rounded down
abbrev pub second_data : ℤ → Data
second_data n = number (of_integer (second_of n))
