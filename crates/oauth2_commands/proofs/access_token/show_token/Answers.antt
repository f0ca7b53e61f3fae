use Rattle.std.proofs.Common.{refl, sym, ◌∙◌}
use Rattle.std.proofs.lemmas.Result.{IfOk-weaker}
use Rattle.oauth2_commands.proofs.IdTokens.{added}
use Rattle.oauth2_commands.proofs.access_token.show_token.Goals as goal

pub returns-in-None : goal.returns-in-None
returns-in-None c =
    rw (sym c.signature_algorithm.ensures ∙ c.in-None.is)
    (IfOk-weaker c.show_unchecked.result _ _ (λ status printed. added _ _ status _ refl printed) c.show_unchecked.ensures)
