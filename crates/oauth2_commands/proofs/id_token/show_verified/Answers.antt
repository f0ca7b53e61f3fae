use Rattle.std.proofs.Common.{rules, refl, inl, inr}
use Rattle.std.proofs.lemmas.Result.{IfOk-weaker}
use Rattle.oauth2_commands.proofs.IdTokens.{added}
use Rattle.oauth2_commands.proofs.id_token.show_verified.Goals as goal

pub returns-in-None : goal.returns-in-None
returns-in-None c = rw c.in-None.is (IfOk-weaker c.show_unchecked.result _ _ (λ status printed. added _ _ status _ refl printed) c.show_unchecked.ensures)

pub returns-in-Ok : goal.returns-in-Ok
returns-in-Ok c =
    rw c.in-Some.is (IfOk-weaker c.show_claims.result _ _ (λ status printed. added _ _ status _ (inl (search (rules, c.in-Ok.ensures.verified), refl)) printed) c.show_claims.ensures)

pub returns-in-Err : goal.returns-in-Err
returns-in-Err c =
    rw c.in-Some.is
    (IfOk-weaker c.show_error_text.result _ _ (λ status printed. added _ _ status _ (inr (c.in-Err.error, c.in-Err.ensures.refused, refl)) printed) c.show_error_text.ensures)
