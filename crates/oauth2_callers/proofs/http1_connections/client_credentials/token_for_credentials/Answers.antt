use Rattle.url.specs.Parts.{serialize}
use Rattle.oauth2_wire.specs.Reply.{answer_of}
use Rattle.oauth2_requests.specs.ClientCredentials.{client_credentials_configuration}
use Rattle.oauth2_http1_connections.proofs.KeptFromBytes.{from_kept_bytes}
use Rattle.oauth2_callers.proofs.http1_connections.client_credentials.token_for_credentials.Goals as goal

pub returns : goal.returns
returns g c =
    from_kept_bytes g.C.Connect.opens g.C.KeepAliveConnect.looks g.C.Stream.Transmit.contents g.C.Stream.Receive.remaining g.C.Stream.Receive.reads
    g.C.Stream.Transmit.writes g.C.Stream.Transmit.flushes (client_credentials_configuration c.args.request) (serialize c.args.request.token_url.url)
    g.TR.FromJson.meaning g.TE.FromJson.meaning (answer_of c.args.request.base.reply_rule g.TR.FromJson.reading g.TE.FromJson.reading)
    c.args.http_client.now c.request.new.http_client c.request.result c.request.ensures.once
