use Rattle.oauth2_wire.specs.Reply.{answer_of}
use Rattle.oauth2_wire.proofs.OnceLemmas.{SendsOnce-replied, SendsOnce-failed}
use Rattle.oauth2_wire.proofs.once.send_once.Goals as goal

pub returns-in-Ok-clause-once : goal.returns-in-Ok-clause-once
returns-in-Ok-clause-once g c =
    SendsOnce-replied g.DO.FromJson.meaning g.TE.FromJson.meaning g.C.SyncHttpClient.step (answer_of c.args.rule g.DO.FromJson.reading g.TE.FromJson.reading)
    c.args.http_client.now c.call.new.http_client c.args.prepared c.in-Ok.reply c.endpoint_response_with.result c.in-Ok.ensures.once c.endpoint_response_with.ensures

pub returns-in-Err-clause-once : goal.returns-in-Err-clause-once
returns-in-Err-clause-once g c =
    SendsOnce-failed g.DO.FromJson.meaning g.TE.FromJson.meaning g.C.SyncHttpClient.step (answer_of c.args.rule g.DO.FromJson.reading g.TE.FromJson.reading)
    c.args.http_client.now c.call.new.http_client g.C.SyncHttpClient.step (λ request answer did. did) c.args.prepared c.in-Err.error c.in-Err.ensures.once
