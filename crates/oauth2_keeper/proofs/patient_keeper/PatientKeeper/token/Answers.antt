use Rattle.std.proofs.Common.{rules}
use Rattle.oauth2_keeper.proofs.Renewals.{kept_text}
use Rattle.oauth2_keeper.proofs.patient_keeper.PatientKeeper.token.Goals as goal

pub returns-in-Ok-clause-call : goal.returns-in-Ok-clause-call
returns-in-Ok-clause-call g c =
    (c.keep_good.new.self, (c.in-Ok.ensures.call, kept_text c.keep_good.new.self.keeper.token c.unwrap.result.now (search rules)))
