-- The faults of texts, and of values.
use Rattle.std.proofs.Common.{◌≡◌, ap, ◌∙◌}
use Rattle.std.specs.Prelude.{Option, Some, None, is_none, Ok, Err, if◌then◌else◌}
use Rattle.serde_json.specs.Data.{Data}
use Rattle.oauth2_json.specs.Reading.{Reading, whole}
use Rattle.oauth2_json.specs.declared.read.ParseCause.TheVariants as cause
use Rattle.oauth2_grants.specs.authorization_details.Details.{details_fault, details_reading, text_fault, TellsFault}
use Rattle.oauth2_grants.specs.declared.authorization_details.details_fault.DetailsFault.{DetailsFault}
use Rattle.oauth2_grants.specs.declared.authorization_details.details_fault.DetailsFault.TheVariants.{NotJson, NotArray, NotObject, NoType, Memory}

-- the fault of the value that a text is, is that of the text
pub tells : (fault : DetailsFault) (found : Option Data) (d : Data) → found ≡ Some d → details_fault d ≡ Some fault → TellsFault fault (text_fault found)
tells NotJson found d is wrong = ap text_fault is ∙ wrong
tells NotArray found d is wrong = ap text_fault is ∙ wrong
tells (NotObject n) found d is wrong = ap text_fault is ∙ wrong
tells (NoType n) found d is wrong = ap text_fault is ∙ wrong
tells Memory found d is wrong = tt

-- what details read to, by their fault
reading_by : Data → Option DetailsFault → Reading Data
reading_by d fault = if is_none fault then Ok d else Err (whole cause.Refused)

-- a value without a fault reads to itself
pub read_whole : (d : Data) → details_fault d ≡ None → details_reading d ≡ Ok d
unfolding reading_by
read_whole d good = ap (reading_by d) good

-- any other value is `Refused`
pub refused : (d : Data) (fault : DetailsFault) → details_fault d ≡ Some fault → details_reading d ≡ Err (whole cause.Refused)
unfolding reading_by
refused d fault wrong = ap (reading_by d) wrong
