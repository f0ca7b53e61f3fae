-- The text of an error.
use Rattle.std.specs.Prelude.{ℕ, List, ◌++◌, Option, codes, option_map}
use Rattle.oauth2_http1.specs.Display.{http1_error_text}
use Rattle.oauth2_http1_connections.specs.declared.error.KeepAliveError.{KeepAliveError}
use Rattle.oauth2_http1_connections.specs.declared.error.KeepAliveError.TheVariants.{Http1, Unanswered}

-- the text that `Display` prints; it says so if a used connection gave no reply
abbrev pub keep_alive_error_text : {E : Type 0} → (E → Option (List ℕ)) → KeepAliveError E
    → Option (List ℕ)
keep_alive_error_text text (Http1 error) = http1_error_text text error
keep_alive_error_text text (Unanswered error again) =
    option_map (λ shown. codes "no reply on a used connection: " ++ shown)
    (http1_error_text text error)
