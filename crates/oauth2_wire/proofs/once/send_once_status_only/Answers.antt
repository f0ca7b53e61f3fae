use Rattle.std.proofs.Common.{Err, rules}
use Rattle.oauth2_wire.specs.Once.{KeepsSuccess}
use Rattle.oauth2_wire.specs.Reply.{status_answer_of}
use Rattle.oauth2_wire.proofs.OnceLemmas.{SendsOnce-replied, SendsOnce-kept, SendsOnce-failed}
use Rattle.oauth2_wire.proofs.once.send_once_status_only.Goals as goal

pub returns-in-Ok-clause-once : goal.returns-in-Ok-clause-once
returns-in-Ok-clause-once g c =
    SendsOnce-replied {D = Unit {0}} {A = Unit {0}} (λ done. done) g.TE.FromJson.meaning g.C.SyncHttpClient.step (status_answer_of g.TE.FromJson.reading)
    c.args.http_client.now c.call.new.http_client c.args.prepared c.in-Ok.reply c.endpoint_response_status_only.result c.in-Ok.ensures.once c.endpoint_response_status_only.ensures.answer

pub returns-in-Ok-clause-success : goal.returns-in-Ok-clause-success
returns-in-Ok-clause-success g c =
    SendsOnce-kept {D = Unit {0}} {A = Unit {0}} (λ done. done) g.TE.FromJson.meaning g.C.SyncHttpClient.step (status_answer_of g.TE.FromJson.reading)
    c.args.http_client.now c.call.new.http_client c.args.prepared c.in-Ok.reply c.endpoint_response_status_only.result c.in-Ok.ensures.once c.endpoint_response_status_only.ensures.answer
    (λ lost good. search (rules, lost, c.endpoint_response_status_only.ensures.success good))

pub returns-in-Err-clause-once : goal.returns-in-Err-clause-once
returns-in-Err-clause-once g c =
    SendsOnce-failed {D = Unit {0}} {A = Unit {0}} (λ done. done) g.TE.FromJson.meaning g.C.SyncHttpClient.step (status_answer_of g.TE.FromJson.reading)
    c.args.http_client.now c.call.new.http_client g.C.SyncHttpClient.step (λ request answer did. did) c.args.prepared c.in-Err.error c.in-Err.ensures.once

pub returns-in-Err-clause-success : goal.returns-in-Err-clause-success
returns-in-Err-clause-success g c =
    SendsOnce-failed {D = Unit {0}} {A = Unit {0}} (λ done. done) g.TE.FromJson.meaning (KeepsSuccess g.C.SyncHttpClient.step (Err c.in-Err.error)) (status_answer_of g.TE.FromJson.reading)
    c.args.http_client.now c.call.new.http_client g.C.SyncHttpClient.step (λ request answer did. (did, λ lost. search (rules, lost, c.in-Err.ensures.unsent)))
    c.args.prepared c.in-Err.error c.in-Err.ensures.once
