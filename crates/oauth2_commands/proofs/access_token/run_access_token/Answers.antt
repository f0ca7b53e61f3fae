use Rattle.std.proofs.lemmas.Result.{IfOk-weaker}
use Rattle.oauth2_commands.proofs.IdTokens.{unread_shown}
use Rattle.oauth2_commands.proofs.access_token.run_access_token.Goals as goal

pub returns-in-Err : goal.returns-in-Err
returns-in-Err c =
    IfOk-weaker c.show_read_error.result _ _
    (λ status shown. unread_shown _ c.in-Err.error _ _ _ status (rw c.as_str.ensures.value at c.in-Err.ensures.read) shown)
    c.show_read_error.ensures
