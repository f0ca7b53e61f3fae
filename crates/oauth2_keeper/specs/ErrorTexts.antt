-- What `Display` writes of the errors.
use Rattle.std.specs.Prelude.{ℕ, List, Option, Some, codes}
use Rattle.oauth2_wire.specs.Display.{fault_text}
use Rattle.oauth2_keeper.specs.declared.patient_keeper.PatientError.{PatientError}
use Rattle.oauth2_keeper.specs.declared.patient_keeper.PatientError.TheVariants.{Request, Waits, OtherTokenType}

-- the text of an error, where that of the server's error is `text`; the end of a wait is not shown
abbrev pub patient_error_text : {RE T : Type 0} → (T → Option (List ℕ)) → PatientError RE T
    → Option (List ℕ)
patient_error_text text (Request error) = fault_text text error
patient_error_text text (Waits until) = Some (codes "The last request failed, and none is made yet")
patient_error_text text OtherTokenType = Some (codes "The server gave a token of another type")
