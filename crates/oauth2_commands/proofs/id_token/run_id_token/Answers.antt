use Rattle.std.proofs.lemmas.Result.{IfOk-weaker}
use Rattle.oauth2_openid.specs.Seen.{token_of}
use Rattle.oauth2_script.specs.Views.{id_token_view}
use Rattle.oauth2_commands.proofs.IdTokens.{token_shown, unread_shown}
use Rattle.oauth2_commands.proofs.id_token.run_id_token.Goals as goal

pub returns-in-Ok : goal.returns-in-Ok
returns-in-Ok c =
    IfOk-weaker c.show_checked.result _ _
    (λ status shown.
    token_shown c.args.client.now (id_token_view c.args.params) c.args.clock.now (c.args.events.now) c.show_checked.new.events status
    (token_of c.in-Ok.token) c.read.result.nanosecond (rw c.as_str.ensures.value at c.in-Ok.ensures.read) c.read.ensures.shown shown)
    c.show_checked.ensures

pub returns-in-Err : goal.returns-in-Err
returns-in-Err c =
    IfOk-weaker c.show_read_error.result _ _
    (λ status shown. unread_shown _ c.in-Err.error _ _ _ status (rw c.as_str.ensures.value at c.in-Err.ensures.read) shown)
    c.show_read_error.ensures
