use Rattle.std.proofs.Common.{codes}
use Rattle.std.proofs.lemmas.Result.{IfOk-weaker}
use Rattle.oauth2_grant_commands.proofs.Requests.{absent_told}
use Rattle.oauth2_grant_commands.proofs.push.run_push.Goals as goal

pub returns-in-None : goal.returns-in-None
returns-in-None c =
    IfOk-weaker c.show_missing.result _ _
    (λ status told. λ fed. absent_told (codes "authorization") _ c.args.client.now.endpoints.auth _ _ status c.in-None.is told)
    c.show_missing.ensures
