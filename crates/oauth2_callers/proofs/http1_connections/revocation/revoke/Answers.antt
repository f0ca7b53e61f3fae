use Rattle.url.specs.Parts.{serialize}
use Rattle.oauth2_wire.specs.Reply.{status_answer_of}
use Rattle.oauth2_requests.specs.TokenRevocation.{revocation_configuration}
use Rattle.oauth2_http1_connections.proofs.KeptFromBytes.{from_kept_bytes}
use Rattle.oauth2_callers.proofs.http1_connections.revocation.revoke.Goals as goal

pub returns : goal.returns
returns g c =
    from_kept_bytes g.C.Connect.opens g.C.KeepAliveConnect.looks g.C.Stream.Transmit.contents g.C.Stream.Receive.remaining g.C.Stream.Receive.reads
    g.C.Stream.Transmit.writes g.C.Stream.Transmit.flushes (revocation_configuration c.args.request) (serialize c.args.request.revocation_url.url)
    (λ done. done) g.TE.FromJson.meaning (status_answer_of g.TE.FromJson.reading)
    c.args.http_client.now c.request.new.http_client c.request.result c.request.ensures.once
