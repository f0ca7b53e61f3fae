-- A target that names no place.
use Rattle.std.proofs.Common.{ℕ, Vec, Global}
use Rattle.http.specs.declared.request.Request.{Request}
use Rattle.http.specs.Request.{head_of}
use Rattle.oauth2_http1.specs.declared.fault.MessageFault.{MessageFault}
use Rattle.oauth2_http1.specs.declared.fault.MessageFault.TheVariants as Fault
use Rattle.oauth2_http1.specs.Origin.{NamesNoPlace}
use Rattle.oauth2_http1.specs.Client.{CannotSend}

pub no_place : (e : MessageFault) (r : Request (Vec ℕ Global)) → NamesNoPlace e (head_of r).uri → CannotSend e r
no_place Fault.NoOrigin r none = none
no_place Fault.NoHost r none = none
no_place Fault.BadPort r none = none
no_place Fault.OwnFraming r none = absurd none
no_place Fault.Connect r none = absurd none
no_place (Fault.Refused e) r none = absurd none
no_place Fault.Memory r none = absurd none
