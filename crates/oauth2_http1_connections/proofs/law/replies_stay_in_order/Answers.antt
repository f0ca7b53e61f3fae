use Rattle.std.proofs.Common.{false}
use Rattle.oauth2_http1_connections.proofs.Chains.{replies}
use Rattle.oauth2_http1_connections.proofs.law.replies_stay_in_order.Goals as goal

pub returns : goal.returns
returns g c = λ place all before after carried more known. replies g.C.KeepAliveConnect.looks g.C.Stream.Transmit.contents g.C.Stream.Receive.remaining g.C.Stream.Receive.reads g.C.Stream.Transmit.writes g.C.Stream.Transmit.flushes place false all before after carried more known
