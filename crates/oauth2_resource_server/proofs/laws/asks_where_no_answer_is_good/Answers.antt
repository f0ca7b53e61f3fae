use Rattle.oauth2_wire.specs.Once.{AsksOnce}
use Rattle.oauth2_wire.specs.Reply.{answer_of}
use Rattle.oauth2_resource_server.specs.Questions.{StepsOver}
use Rattle.oauth2_resource_server.proofs.LawsHold.{asks_where_unknown}
use Rattle.oauth2_resource_server.proofs.laws.asks_where_no_answer_is_good.Goals as goal

pub returns : goal.returns
returns g c =
    asks_where_unknown
    (λ rule. AsksOnce g.TIR.FromJson.meaning g.TE.FromJson.meaning
    (StepsOver g.C.Connect.opens g.C.KeepAliveConnect.looks g.C.Stream.Transmit.contents g.C.Stream.Receive.remaining g.C.Stream.Receive.reads
    g.C.Stream.Transmit.writes g.C.Stream.Transmit.flushes)
    (answer_of rule g.TIR.FromJson.reading g.TE.FromJson.reading))
    g.TIR.TokenIntrospectionResponse.active g.TIR.TokenIntrospectionResponse.exp
