use Rattle.std.proofs.Common.{refl}
use Rattle.std.proofs.lemmas.Result.{IfOk-weaker}
use Rattle.oauth2_commands.proofs.IdTokens.{added}
use Rattle.oauth2_commands.proofs.access_token.show_by_algorithm.Goals as goal

pub returns : goal.returns
returns c =
    IfOk-weaker c.show_keys_error.result _ _
    (λ status shows. let told = shows _ c.in-Err.ensures in rw told.1 (added _ _ status _ refl told.2))
    c.show_keys_error.ensures
