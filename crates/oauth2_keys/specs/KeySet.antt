-- A JSON Web Key Set (RFC 7517, 5).
use Rattle.std.specs.Prelude.{ℕ, nat_le, List, [], ◌∷◌, length, if◌then◌else◌, Option, Ok, Err, codes}
use Rattle.serde_json.specs.Data.{Data, null, boolean, number, string, array, object, Items, no_items, item}
use Rattle.serde_json.specs.Find.{get_member}
use Rattle.oauth2_json.specs.Members.{members_of_object, needed_member}
use Rattle.oauth2_json.specs.Reading.{Reading, read_then, whole}
use Rattle.oauth2_json.specs.declared.read.ParseCause.TheVariants as cause
use Rattle.oauth2_json.specs.Values.{wrong_type}
use Rattle.oauth2_keys.specs.declared.json_web_key.ListedKey.{ListedKey}
use Rattle.oauth2_keys.specs.declared.json_web_key.ListedKey.TheVariants.{Usable, Unusable as OfNoUse}
use Rattle.oauth2_keys.specs.Members.{KeyReading}
use Rattle.oauth2_keys.specs.Key.{Key, key_reading, told_key_id}

-- a key that signatures can be checked with, or the key identifier and the fault of another one
abbrev pub listed_as : Option (List ℕ) → KeyReading Key → ListedKey
listed_as key_id (Ok k) = Usable k
listed_as key_id (Err e) = OfNoUse (record { key_id = key_id; fault = e })

-- a key of the set, from its JSON value
unfoldable pub listed_key : Data → ListedKey
listed_key d = listed_as (told_key_id d) (key_reading d)

-- the keys of the set, in the order of the array
abbrev pub listed_keys : Items → List ListedKey
listed_keys no_items = []
listed_keys (item d ds) = listed_key d ∷ listed_keys ds

-- the keys of an array, if they are at most this many
abbrev pub keys_within : ℕ → List ListedKey → Reading (List ListedKey)
keys_within limit keys =
    if nat_le (length keys) limit then Ok keys else Err (whole cause.OutOfRange)

-- the value of the member `keys`, which has to be an array (5.1) of at most this many keys
abbrev pub keys_reading : ℕ → Data → Reading (List ListedKey)
keys_reading limit null = wrong_type
keys_reading limit (boolean b) = wrong_type
keys_reading limit (number n) = wrong_type
keys_reading limit (string s) = wrong_type
keys_reading limit (array ds) = keys_within limit (listed_keys ds)
keys_reading limit (object ms) = wrong_type

-- the keys of a set of at most this many: an object with the member `keys`; its other members are
-- ignored (RFC 7517, 5)
abbrev pub set_reading_within : ℕ → Data → Reading (List ListedKey)
set_reading_within limit d =
    read_then (members_of_object d)
    (λ ms. needed_member (keys_reading limit) (codes "keys") (get_member (codes "keys") ms))

-- the greatest number of keys of a set, if the caller names no other
abbrev pub usual_limit : ℕ
usual_limit = 100

-- the keys of a set: an object with the member `keys` (RFC 7517, 5)
abbrev pub set_reading : Data → Reading (List ListedKey)
set_reading d = set_reading_within usual_limit d
