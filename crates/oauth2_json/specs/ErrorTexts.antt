-- What `Display` writes of the errors of reading and writing.
use Rattle.std.specs.Prelude.{ℕ, List, ◌++◌, length, ◌==◌, codes, if◌then◌else◌}
use Rattle.oauth2_json.specs.Reading.{Fault, fault_of}
use Rattle.oauth2_json.specs.declared.read.ParseCause.{ParseCause}
use Rattle.oauth2_json.specs.declared.read.ParseCause.TheVariants as cause
use Rattle.oauth2_json.specs.declared.read.ReadError.{ReadError}
use Rattle.oauth2_json.specs.declared.read.ReadError.TheVariants as reading
use Rattle.oauth2_json.specs.declared.write.WriteError.{WriteError}
use Rattle.oauth2_json.specs.declared.write.WriteError.TheVariants as writing

-- the text of the cause of a fault
abbrev pub cause_text : ParseCause → List ℕ
cause_text cause.NotJson = codes "not one whole JSON value"
cause_text cause.NotObject = codes "not an object"
cause_text cause.Missing = codes "missing"
cause_text cause.WrongType = codes "of the wrong type"
cause_text cause.NotWhole = codes "not a whole number"
cause_text cause.OutOfRange = codes "out of range"
cause_text cause.BadUrl = codes "not a URL"
cause_text cause.BothNames = codes "under both of its names"
cause_text cause.Refused = codes "of another shape"

-- the text of a fault: `member: cause`, or `cause` if the member's name is empty
abbrev pub parse_fault_text : Fault → List ℕ
parse_fault_text f =
    if length f.member == 0 then cause_text f.cause else f.member ++ codes ": " ++ cause_text f.cause

-- the text of an error of reading
abbrev pub read_error_text : ReadError → List ℕ
read_error_text (reading.Fault f) = parse_fault_text (fault_of f)
read_error_text reading.Memory = codes "out of memory"

-- the text of an error of writing
abbrev pub write_error_text : WriteError → List ℕ
write_error_text writing.Memory = codes "out of memory"
write_error_text writing.NameClash = codes "an extra member bears a name of the type's own"
write_error_text writing.Float = codes "an extra member holds a float"
