use Rattle.oauth2_http1_connections.proofs.retries.LawLemmas.{opened_nothing}
use Rattle.oauth2_http1_connections.proofs.retries.law.each_unsent_error_opened_nothing.Goals as goal

pub returns : goal.returns
returns g c =
    opened_nothing g.C.Connect.opens g.C.Stream.Transmit.contents g.C.Stream.Receive.remaining g.C.Stream.Receive.reads
    g.C.Stream.Transmit.writes g.C.Stream.Transmit.flushes
