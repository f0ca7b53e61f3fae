-- Errors that say that nothing of the request was sent.
use Rattle.std.specs.Prelude.{Bool, true, false}
use Rattle.oauth2_adapters.specs.declared.error.AdapterError.{AdapterError}
use Rattle.oauth2_adapters.specs.declared.error.AdapterError.TheVariants as adapted
use Rattle.oauth2_http1.specs.declared.error.Http1Error.{Http1Error}
use Rattle.oauth2_http1.specs.declared.error.Http1Error.TheVariants as http1

-- the error says that no connection was opened
abbrev pub is_unsent_http1 : {E : Type 0} → Http1Error E → Bool
is_unsent_http1 (http1.Request fault) = true
is_unsent_http1 (http1.Connect error) = true
is_unsent_http1 (http1.Write error) = false
is_unsent_http1 (http1.Reply fault) = false

-- the error of the inner client says so; `Memory` is returned only after a reply was received
abbrev pub is_unsent_adapted : {E : Type 0} → (E → Bool) → AdapterError E → Bool
is_unsent_adapted unsent (adapted.Client error) = unsent error
is_unsent_adapted unsent adapted.Memory = false
