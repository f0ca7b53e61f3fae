-- Authorization details (RFC 9396, 2): a JSON array of objects, each with a text under `type`.
use Rattle.std.specs.Prelude.{◌≡◌, ℕ, ◌+◌, ◌≤◌, Bool, false, List, codes, Option, Some, None, is_none, Ok, Err, if◌then◌else◌}
use Rattle.std.specs.Option.{option_or}
use Rattle.serde_json.specs.Data.{Data, null, boolean, number, string, array, object, Items, no_items, item, depth}
use Rattle.serde_json.specs.Find.{get_member}
use Rattle.serde_json.specs.Read.{read, max_depth}
use Rattle.serde_json.specs.Written.{compact_text, has_float}
use Rattle.oauth2_json.specs.Reading.{Reading, whole}
use Rattle.oauth2_json.specs.declared.read.ParseCause.TheVariants as cause
use Rattle.oauth2_grants.specs.declared.authorization_details.details_fault.DetailsFault.{DetailsFault}
use Rattle.oauth2_grants.specs.declared.authorization_details.details_fault.DetailsFault.TheVariants.{NotJson, NotArray, NotObject, NoType, Memory}

-- what is wrong with the value under `type` of item n, counted from 0: it has to be a string
abbrev pub type_fault : ℕ → Option Data → Option DetailsFault
type_fault n None = Some (NoType n)
type_fault n (Some null) = Some (NoType n)
type_fault n (Some (boolean b)) = Some (NoType n)
type_fault n (Some (number x)) = Some (NoType n)
type_fault n (Some (string s)) = None
type_fault n (Some (array ds)) = Some (NoType n)
type_fault n (Some (object ms)) = Some (NoType n)

-- what is wrong with item n: it has to be an object whose member `type` is a string (RFC 9396, 2)
abbrev pub detail_fault : ℕ → Data → Option DetailsFault
detail_fault n null = Some (NotObject n)
detail_fault n (boolean b) = Some (NotObject n)
detail_fault n (number x) = Some (NotObject n)
detail_fault n (string s) = Some (NotObject n)
detail_fault n (array ds) = Some (NotObject n)
detail_fault n (object ms) = type_fault n (get_member (codes "type") ms)

-- the first fault of items, the first of which is item n
abbrev pub items_fault : ℕ → Items → Option DetailsFault
items_fault n no_items = None
items_fault n (item d ds) = option_or (detail_fault n d) (items_fault (n + 1) ds)

-- why a value is no authorization details, if it is not
abbrev pub details_fault : Data → Option DetailsFault
details_fault null = Some NotArray
details_fault (boolean b) = Some NotArray
details_fault (number x) = Some NotArray
details_fault (string s) = Some NotArray
details_fault (array ds) = items_fault 0 ds
details_fault (object ms) = Some NotArray

-- the value is authorization details
abbrev pub are_details : Data → Bool
are_details d = is_none (details_fault d)

-- reads authorization details; any other value is `Refused`
abbrev pub details_reading : Data → Reading Data
details_reading d = if are_details d then Ok d else Err (whole cause.Refused)

-- why a text is no authorization details, if it is not; `None` is that of no JSON value
abbrev pub text_fault : Option Data → Option DetailsFault
text_fault None = Some NotJson
text_fault (Some d) = details_fault d

-- an error is the expected fault, unless memory ran out
abbrev pub TellsFault : DetailsFault → Option DetailsFault → Type 0
TellsFault NotJson expected = expected ≡ Some NotJson
TellsFault NotArray expected = expected ≡ Some NotArray
TellsFault (NotObject n) expected = expected ≡ Some (NotObject n)
TellsFault (NoType n) expected = expected ≡ Some (NoType n)
TellsFault Memory expected = Unit {0}

-- a compact text of a value: exact if it holds no float, and it reads back if it nests at most 127 deep
abbrev pub IsTextOf : Data → List ℕ → Type 0
IsTextOf d text =
    (has_float d ≡ false → text ≡ compact_text d) × (depth d ≤ max_depth → read text ≡ Some d)
