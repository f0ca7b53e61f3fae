-- A reply that is not a success.
use Rattle.oauth2_wire.specs.Reply.{Answer, ShowsFault}
use Rattle.oauth2_wire.specs.declared.error.RequestTokenError.{RequestTokenError}

-- the error is this answer, which cannot be a success
abbrev pub ShowsFailure : {T E RE : Type 0} → (T → E) → Answer ⊥ E → RequestTokenError RE T → Type 0
ShowsFailure error_meaning answer fault = ShowsFault error_meaning answer fault
