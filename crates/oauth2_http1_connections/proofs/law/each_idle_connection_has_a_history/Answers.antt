use Rattle.oauth2_http1_connections.proofs.Histories.{keeps_histories}
use Rattle.oauth2_http1_connections.proofs.law.each_idle_connection_has_a_history.Goals as goal

pub returns : goal.returns
returns g c = λ before request result after each did. keeps_histories g.C.Connect.opens g.C.KeepAliveConnect.looks g.C.Stream.Transmit.contents g.C.Stream.Receive.remaining g.C.Stream.Receive.reads g.C.Stream.Transmit.writes g.C.Stream.Transmit.flushes before request result after each did
