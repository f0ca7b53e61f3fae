use Rattle.oauth2_http1_connections.proofs.deadlines.LawLemmas.{asked_for}
use Rattle.oauth2_http1_connections.proofs.deadlines.law.each_late_reply_was_asked_for.Goals as goal

pub returns : goal.returns
returns g c =
    asked_for g.C.Connect.opens g.C.Stream.Transmit.contents g.C.Stream.Receive.remaining g.C.Stream.Receive.reads
    g.C.Stream.Transmit.writes g.C.Stream.Transmit.flushes
