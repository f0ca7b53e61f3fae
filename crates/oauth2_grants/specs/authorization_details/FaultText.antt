-- The texts of a `DetailsFault`.
use Rattle.std.specs.Prelude.{ℕ, List, ◌++◌, codes, decimal}
use Rattle.oauth2_grants.specs.declared.authorization_details.details_fault.DetailsFault.{DetailsFault}
use Rattle.oauth2_grants.specs.declared.authorization_details.details_fault.DetailsFault.TheVariants.{NotJson, NotArray, NotObject, NoType, Memory}

-- the text of each fault
abbrev pub details_fault_text : DetailsFault → List ℕ
details_fault_text NotJson = codes "not one JSON value"
details_fault_text NotArray = codes "not an array"
details_fault_text (NotObject n) = codes "item " ++ decimal n ++ codes " is not an object"
details_fault_text (NoType n) = codes "item " ++ decimal n ++ codes " has no text under type"
details_fault_text Memory = codes "out of memory"
