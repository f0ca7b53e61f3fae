use Rattle.std.proofs.Common.{refl, sym, ◌∙◌}
use Rattle.std.proofs.lemmas.Result.{IfOk-weaker}
use Rattle.oauth2_commands.proofs.IdTokens.{added}
use Rattle.oauth2_commands.proofs.id_token.show_checked.Goals as goal

pub returns-in-Err : goal.returns-in-Err
returns-in-Err c =
    rw (sym c.in_ok-hash.ensures ∙ c.in-Err.is)
    (IfOk-weaker c.show_error_text.result _ _ (λ status printed. added _ _ status _ refl printed) c.show_error_text.ensures)
