use Rattle.oauth2_http1_connections.proofs.Histories.{answered_has}
use Rattle.oauth2_http1_connections.proofs.Next.{is_next}
use Rattle.oauth2_http1_connections.proofs.law.each_reply_is_the_next_message.Goals as goal

pub returns-clause-next : goal.returns-clause-next
returns-clause-next g c = λ before request response after did history.
    is_next g.C.Connect.opens g.C.KeepAliveConnect.looks g.C.Stream.Transmit.contents g.C.Stream.Receive.remaining g.C.Stream.Receive.reads
    g.C.Stream.Transmit.writes g.C.Stream.Transmit.flushes before after request response did history

pub returns-clause-history : goal.returns-clause-history
returns-clause-history g c = λ before request response after each did.
    answered_has g.C.Connect.opens g.C.KeepAliveConnect.looks g.C.Stream.Transmit.contents g.C.Stream.Receive.remaining g.C.Stream.Receive.reads
    g.C.Stream.Transmit.writes g.C.Stream.Transmit.flushes before request response after each did
