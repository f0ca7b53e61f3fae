use Rattle.std.proofs.Common.{false}
use Rattle.oauth2_http1_connections.proofs.Chains.{requests, written}
use Rattle.oauth2_http1_connections.proofs.law.requests_stay_in_order.Goals as goal

pub returns-clause-sent : goal.returns-clause-sent
returns-clause-sent g c = λ place all before after carried leave. written g.C.KeepAliveConnect.looks g.C.Stream.Transmit.contents g.C.Stream.Receive.remaining g.C.Stream.Receive.reads g.C.Stream.Transmit.writes g.C.Stream.Transmit.flushes place leave false all before after carried

pub returns-clause-requests : goal.returns-clause-requests
returns-clause-requests g c = λ limits place all before after carried more takes. requests g.C.KeepAliveConnect.looks g.C.Stream.Transmit.contents g.C.Stream.Receive.remaining g.C.Stream.Receive.reads g.C.Stream.Transmit.writes g.C.Stream.Transmit.flushes place limits false all before after carried more takes
