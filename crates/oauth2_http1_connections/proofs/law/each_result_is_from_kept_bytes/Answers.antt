use Rattle.std.specs.Prelude.{⊤}
use Rattle.oauth2_http1_connections.proofs.KeptFromBytes.{from_kept_bytes}
use Rattle.oauth2_http1_connections.proofs.law.each_result_is_from_kept_bytes.Goals as goal

pub returns-clause-body : goal.returns-clause-body
returns-clause-body g c = λ configuration text says before after result asked.
    from_kept_bytes g.C.Connect.opens g.C.KeepAliveConnect.looks g.C.Stream.Transmit.contents g.C.Stream.Receive.remaining g.C.Stream.Receive.reads
    g.C.Stream.Transmit.writes g.C.Stream.Transmit.flushes configuration text
    g.D.FromJson.meaning g.T.FromJson.meaning says before after result asked

pub returns-clause-status_only : goal.returns-clause-status_only
returns-clause-status_only g c = λ configuration text says before after result asked.
    from_kept_bytes g.C.Connect.opens g.C.KeepAliveConnect.looks g.C.Stream.Transmit.contents g.C.Stream.Receive.remaining g.C.Stream.Receive.reads
    g.C.Stream.Transmit.writes g.C.Stream.Transmit.flushes configuration text
    (λ (done : ⊤). done) g.T.FromJson.meaning says before after result asked
