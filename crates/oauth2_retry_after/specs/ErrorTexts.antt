-- The text of an error of a client that tells that a server is busy.
use Rattle.std.specs.Prelude.{ℕ, List, Option, Some, codes}
use Rattle.oauth2_retry_after.specs.declared.error.BusyError.{BusyError}
use Rattle.oauth2_retry_after.specs.declared.error.BusyError.TheVariants.{Busy, Client}

-- the text that a `BusyError` shows; the inner client's error has its own, or none
abbrev pub busy_error_text : {E : Type 0} → (E → Option (List ℕ)) → BusyError E → Option (List ℕ)
busy_error_text text (Busy status retry_after) = Some (codes "The server asks to try again later")
busy_error_text text (Client error) = text error
