use Rattle.std.proofs.Common.{refl, inl, inr}
use Rattle.std.proofs.lemmas.Result.{IfOk-weaker}
use Rattle.oauth2_openid_login.proofs.login.end_with_code.Goals as goal

pub returns-in-Ok-clause-end : goal.returns-in-Ok-clause-end
returns-in-Ok-clause-end g c =
    inl (c.in-Ok.response, c.in-Ok.ensures.once, c.clock.result, c.clock.ensures, c.check_response.ensures.judges)

pub returns-in-Ok-clause-rules : goal.returns-in-Ok-clause-rules
returns-in-Ok-clause-rules g c = IfOk-weaker c.check_response.result _ _ (λ end h. (c.clock.result, c.clock.ensures, h)) c.check_response.ensures.rules

pub returns-in-Err-clause-end : goal.returns-in-Err-clause-end
returns-in-Err-clause-end g c = inr (c.in-Err.error, refl, c.in-Err.ensures.once)
