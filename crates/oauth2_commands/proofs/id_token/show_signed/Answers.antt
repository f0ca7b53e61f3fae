use Rattle.std.proofs.Common.{refl}
use Rattle.std.proofs.lemmas.Result.{IfOk-weaker}
use Rattle.oauth2_commands.proofs.IdTokens.{added}
use Rattle.oauth2_commands.proofs.id_token.show_signed.Goals as goal

pub returns-in-None : goal.returns-in-None
returns-in-None c = rw c.in-None.is (IfOk-weaker c.show_claims.result _ _ (λ status printed. added _ _ status _ refl printed) c.show_claims.ensures)

pub returns-in-Err : goal.returns-in-Err
returns-in-Err c =
    rw c.in-Some.is
    (IfOk-weaker c.show_keys_error.result _ _
    (λ status shows. let told = shows _ c.in-Err.ensures in rw told.1 (added _ _ status _ refl told.2))
    c.show_keys_error.ensures)
