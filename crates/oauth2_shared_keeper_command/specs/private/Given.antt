-- The refresh token that goes on after a result that the code holds.
use Rattle.std.specs.Prelude.{ℕ, List, Option, Some, None, unwrap_or, Result, Ok, Err}
use Rattle.oauth2_request_commands.specs.private.Results.{ShownFault, TokenSeen, token_meaning}

-- that of the token or, if it has none, the one that was sent
abbrev pub given_in : List ℕ → Result TokenSeen ShownFault → Option (List ℕ)
given_in sent (Ok token) = Some (unwrap_or (token_meaning token).refresh_token sent)
given_in sent (Err fault) = None
