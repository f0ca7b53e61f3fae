use Rattle.std.proofs.lemmas.Result.{IfOk-weaker}
use Rattle.oauth2_commands.proofs.IdTokens.{read_error_shown}
use Rattle.oauth2_commands.proofs.id_token.show_read_error.Goals as goal

pub returns : goal.returns
returns c =
    IfOk-weaker c.show_error_text.result _ _
    (λ status printed.
    read_error_shown c.args.error.now (c.args.events.now) c.show_error_text.new.events status c.in_default.not-Memory printed)
    c.show_error_text.ensures
