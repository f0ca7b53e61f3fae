-- The laws.
use Rattle.std.proofs.Common.{◌≡◌, ℕ, List, Vec, Global, Option, Some, None, Result, Ok, Err, Bool, true, false, arith}
use Rattle.std.specs.Prelude.{⊤, if◌then◌else◌}
use Rattle.std.specs.IoError.{error_kind}
use Rattle.std.specs.declared.io.Error as Io
use Rattle.http.specs.declared.request.Request.{Request}
use Rattle.oauth2_http1.specs.Client.{Exchanges, Writes}
use Rattle.oauth2_http1.specs.Display.{is_time_limit}
use Rattle.oauth2_http1.specs.Origin.{Place}
use Rattle.oauth2_http1.specs.declared.error.Http1Error.TheVariants as http1
use Rattle.oauth2_http1_connections.specs.deadlines.Deadline.{EachCallEndsInTime}
use Rattle.oauth2_http1_connections.specs.deadlines.TimeOut.{EachLateReplyWasAskedFor}
use Rattle.oauth2_http1_connections.specs.declared.deadlines.time_out.TimeOut.TheVariants.{WhileSending, AfterSending}

-- what is told of a write is not that the request was sent
not_after : (b : Bool) → (if b then Some WhileSending else None) ≡ Some AfterSending → ⊥
not_after true h = cc
not_after false h = cc

pub asked_for : {C S E : Type 0} (opens : C → Place → Result S E → C → Type 0) (contents remaining : S → Option (List ℕ)) (reads writes : S → Result ℕ Io.Error → S → Type 0) (flushes : S → Result ⊤ Io.Error → S → Type 0)
    → EachLateReplyWasAskedFor opens contents remaining reads writes flushes
asked_for opens contents remaining reads writes flushes before after request (http1.Request fault) is late = absurd (cc)
asked_for opens contents remaining reads writes flushes before after request (http1.Connect e) is late = absurd (cc)
asked_for opens contents remaining reads writes flushes before after request (http1.Write e) is late = absurd (not_after (is_time_limit (error_kind e)) late)
asked_for opens contents remaining reads writes flushes before after request (http1.Reply fault) is late = (is.1, is.2)

pub ends_in_time : EachCallEndsInTime
ends_in_time deadline now left end is_left some by = omega (arith, is_left, some, by)
