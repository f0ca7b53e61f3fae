use Rattle.url.specs.Parts.{serialize}
use Rattle.oauth2_replies.specs.Device.{device_reading, device_seen}
use Rattle.oauth2_wire.specs.Reply.{answer_of}
use Rattle.oauth2_requests.specs.DeviceAuthorization.{device_authorization_configuration}
use Rattle.oauth2_http1_connections.proofs.KeptFromBytes.{from_kept_bytes}
use Rattle.oauth2_callers.proofs.http1_connections.device.device_codes.Goals as goal

pub returns : goal.returns
returns g c =
    from_kept_bytes g.C.Connect.opens g.C.KeepAliveConnect.looks g.C.Stream.Transmit.contents g.C.Stream.Receive.remaining g.C.Stream.Receive.reads
    g.C.Stream.Transmit.writes g.C.Stream.Transmit.flushes (device_authorization_configuration c.args.request) (serialize c.args.request.device_authorization_url.url)
    (device_seen g.EF.FromJson.meaning) g.TE.FromJson.meaning (answer_of c.args.request.base.reply_rule (device_reading g.EF.FromJson.reading) g.TE.FromJson.reading)
    c.args.http_client.now c.request.new.http_client c.request.result c.request.ensures.once
