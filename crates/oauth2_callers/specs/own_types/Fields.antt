-- Extra fields that are a struct: an optional shape and a height.
use Rattle.std.specs.Prelude.{ℕ, ◌^◌, nat_lt, List, [], ◌∷◌, if◌then◌else◌, Option, Some, Ok, Err, codes, option_map, string_bytes}
use Rattle.serde_json.specs.Data.{Data, Members, no_members, number, unsigned, string, object}
use Rattle.serde_json.specs.Find.{get_member}
use Rattle.oauth2_json.specs.Reading.{Reading, read_then, ◌⊛◌}
use Rattle.oauth2_json.specs.Writing.{Writing}
use Rattle.oauth2_json.specs.Members.{members_of_object, needed_member, optional_member}
use Rattle.oauth2_json.specs.Values.{text, whole_number}
use Rattle.oauth2_json.specs.Puts.{put_all}
use Rattle.oauth2_json.specs.declared.read.ParseCause.TheVariants as cause
use Rattle.oauth2_callers.specs.declared.own_types.colorful_fields.ColorfulFields.{ColorfulFields}

-- the values of the extra fields, without their places in memory: the shape's text and the height
abbrev pub Fields : Type 0
Fields = Option (List ℕ) × ℕ

-- the values of the extra fields of a response
abbrev pub fields_seen : ColorfulFields → Fields
fields_seen fields = (option_map string_bytes fields.shape, fields.height)

-- a height read from a number: one that is not below 2^32 is out of range
abbrev pub height_of : ℕ → Reading ℕ
height_of n =
    if nat_lt n (2 ^ 32) then Ok n else Err (record { member = codes "height"; cause = cause.OutOfRange })

-- the fields read from an object's members: `shape` may be absent, `height` is required; if both
-- are wrong, the error is that of `shape`
abbrev pub fields_in : Members → Reading Fields
fields_in ms =
    Ok (λ shape height. (shape, height))
    ⊛ optional_member text (codes "shape") (get_member (codes "shape") ms)
    ⊛ read_then (needed_member whole_number (codes "height") (get_member (codes "height") ms))
    height_of

-- a JSON value read as the extra fields; it has to be an object
abbrev pub fields_reading : Data → Reading Fields
fields_reading d = read_then (members_of_object d) fields_in

-- the members that the extra fields are written as; an absent shape has none
abbrev pub fields_members : Fields → Members
fields_members f =
    put_all
    ((codes "shape", option_map string f.0) ∷ (codes "height", Some (number (unsigned f.1))) ∷ [])
    no_members

-- the extra fields written as JSON: an object with their members
abbrev pub fields_writing : Fields → Writing
fields_writing f = Ok (object (fields_members f))
