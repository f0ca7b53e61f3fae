use Rattle.oauth2_wire.specs.Reply.{answer_of}
use Rattle.oauth2_resource_server.proofs.LawsHold.{keeps_each_history}
use Rattle.oauth2_resource_server.proofs.laws.each_connection_keeps_its_history.Goals as goal

pub returns : goal.returns
returns g c =
    keeps_each_history g.C.Connect.opens g.C.KeepAliveConnect.looks g.C.Stream.Transmit.contents g.C.Stream.Receive.remaining g.C.Stream.Receive.reads
    g.C.Stream.Transmit.writes g.C.Stream.Transmit.flushes g.TIR.FromJson.meaning g.TE.FromJson.meaning
    (λ rule. answer_of rule g.TIR.FromJson.reading g.TE.FromJson.reading)
    g.TIR.TokenIntrospectionResponse.active g.TIR.TokenIntrospectionResponse.exp
