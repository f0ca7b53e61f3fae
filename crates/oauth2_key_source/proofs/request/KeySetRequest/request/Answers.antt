use Rattle.std.proofs.Common.{Ok, Err, ap, refl}
use Rattle.oauth2_key_source.specs.Request.{KeySetQuery}
use Rattle.oauth2_key_source.proofs.request.KeySetRequest.request.Goals as goal

pub returns-in-Ok-Ok-clause-once : goal.returns-in-Ok-Ok-clause-once
returns-in-Ok-Ok-clause-once g c =
    let prepared = c.prepare_request-prepared in
    let once = rw (ap (λ (q : KeySetQuery). q.reply_rule) c.self.view_is, c.in-Ok-Ok.field-0-is) at c.in-Ok-Ok.ensures.once in
    (Ok (Ok c.in-Ok-Ok.keys), refl, (prepared.result, prepared.ensures.ok, prepared.ensures.not_http, once))

pub returns-in-Ok-Err-clause-once : goal.returns-in-Ok-Err-clause-once
returns-in-Ok-Err-clause-once g c =
    let prepared = c.prepare_request-prepared in
    let once = rw (ap (λ (q : KeySetQuery). q.reply_rule) c.self.view_is, c.in-Ok-Err.field-0-is) at c.in-Ok-Err.ensures.once in
    (Ok (Err c.in-Ok-Err.reply), refl, (prepared.result, prepared.ensures.ok, prepared.ensures.not_http, once))

pub returns-in-Err-clause-once : goal.returns-in-Err-clause-once
returns-in-Err-clause-once g c =
    let prepared = c.prepare_request-prepared in
    let once = rw (ap (λ (q : KeySetQuery). q.reply_rule) c.self.view_is) at c.in-Err.ensures.once in
    (Err c.in-Err.error, refl, (prepared.result, prepared.ensures.ok, prepared.ensures.not_http, once))
