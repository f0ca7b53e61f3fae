use Rattle.oauth2_wire.specs.Once.{AsksOnce}
use Rattle.oauth2_wire.specs.Reply.{answer_of}
use Rattle.oauth2_introspection_cache.proofs.RunLaws.{was_told}
use Rattle.oauth2_introspection_cache.proofs.laws.each_answer_was_told.Goals as goal

pub returns : goal.returns
returns g c =
    was_told (λ rule. AsksOnce g.TIR.FromJson.meaning g.TE.FromJson.meaning g.C.SyncHttpClient.step
    (answer_of rule g.TIR.FromJson.reading g.TE.FromJson.reading))
    g.TIR.TokenIntrospectionResponse.active g.TIR.TokenIntrospectionResponse.exp
