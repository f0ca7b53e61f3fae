use Rattle.std.proofs.Common.{rules, Err, refl}
use Rattle.oauth2_wire.specs.declared.request.RequestFault.TheVariants as fault
use Rattle.oauth2_wire.specs.Once.{AsksOnce}
use Rattle.oauth2_wire.specs.Reply.{answer_of}
use Rattle.oauth2_keeper.proofs.Renewals.{by_client_credentials}
use Rattle.oauth2_keeper.proofs.token_keeper.TokenKeeper.ask_by_credentials.Goals as goal

pub returns-in-Ok-clause-once : goal.returns-in-Ok-clause-once
returns-in-Ok-clause-once g c =
    by_client_credentials (λ rule. AsksOnce g.TR.FromJson.meaning g.TE.FromJson.meaning g.C.SyncHttpClient.step (answer_of rule g.TR.FromJson.reading g.TE.FromJson.reading))
    c.args.self.now _ _ _
    c.exchange_client_credentials-request.result c.in-Ok.request (search rules) (search rules) (search rules) (search rules) c.request.ensures.once

pub returns-in-Err-clause-once : goal.returns-in-Err-clause-once
returns-in-Err-clause-once g c = (c.exchange_client_credentials-request.result.token_url, search rules, (Err fault.Memory, tt, (λ no. cc), (refl, refl)))
