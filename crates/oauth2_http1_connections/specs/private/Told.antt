-- How the error of an exchange is told.
use Rattle.std.specs.Prelude.{Bool, true, false}
use Rattle.oauth2_http1.specs.declared.error.Http1Error.{Http1Error}
use Rattle.oauth2_http1_connections.specs.declared.error.KeepAliveError.{KeepAliveError}
use Rattle.oauth2_http1_connections.specs.declared.error.KeepAliveError.TheVariants.{Http1, Unanswered}

-- by whether no byte of a reply came on a connection that was used before
abbrev pub told_as : {E : Type 0} → Bool → Bool → Http1Error E → KeepAliveError E
told_as true again error = Unanswered error again
told_as false again error = Http1 error
