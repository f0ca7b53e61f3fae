-- How far an exchange was when its time was up.
use Rattle.std.specs.Prelude.{◌≡◌, ℕ, ⊤, List, Vec, if◌then◌else◌, Option, Some, None, Result, Err}
use Rattle.std.specs.declared.io.Error as Io
use Rattle.std.specs.declared.alloc.Global.{Global}
use Rattle.std.specs.IoError.{error_kind}
use Rattle.http.specs.declared.request.Request.{Request}
use Rattle.oauth2_http1.specs.Client.{Exchanges, Writes}
use Rattle.oauth2_http1.specs.Display.{is_time_limit}
use Rattle.oauth2_http1.specs.Origin.{Place}
use Rattle.oauth2_http1.specs.declared.client.Http1Client.{Http1Client}
use Rattle.oauth2_http1.specs.declared.error.Http1Error.{Http1Error}
use Rattle.oauth2_http1.specs.declared.error.Http1Error.TheVariants as error
use Rattle.oauth2_http1.specs.declared.fault.ReplyFault.{ReplyFault}
use Rattle.oauth2_http1.specs.declared.fault.ReplyFault.TheVariants as reply
use Rattle.oauth2_http1_connections.specs.declared.deadlines.time_out.TimeOut.{TimeOut}
use Rattle.oauth2_http1_connections.specs.declared.deadlines.time_out.TimeOut.TheVariants.{WhileSending, AfterSending}

-- this, if the error of a connection says that a time limit passed
abbrev pub if_late : Io.Error → TimeOut → Option TimeOut
if_late e told = if is_time_limit (error_kind e) then Some told else None

-- of a reply that was not read
abbrev pub while_reading : ReplyFault → Option TimeOut
while_reading (reply.Read e) = if_late e AfterSending
while_reading fault = None

-- of a call of the client
abbrev pub time_out_of : {E : Type 0} → Http1Error E → Option TimeOut
time_out_of (error.Request fault) = None
time_out_of (error.Connect e) = None
time_out_of (error.Write e) = if_late e WhileSending
time_out_of (error.Reply fault) = while_reading fault

-- if the time was up after the sending, one connection was opened, and the whole request was written
-- to it
module _ {C S E : Type 0} (opens : C → Place → Result S E → C → Type 0) (contents remaining : S → Option (List ℕ))
    (reads writes : S → Result ℕ Io.Error → S → Type 0) (flushes : S → Result ⊤ Io.Error → S → Type 0) where
  abbrev pub EachLateReplyWasAskedFor : Type 0
  EachLateReplyWasAskedFor =
      (before after : Http1Client C) (request : Request (Vec ℕ Global)) (e : Http1Error E)
      → Exchanges opens contents remaining reads writes flushes before request (Err e) after
      → time_out_of e ≡ Some AfterSending
      → (sent : S) × Writes opens contents remaining reads writes flushes before.connect request sent after.connect
