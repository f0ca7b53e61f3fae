use Rattle.std.proofs.Common.{Ok, Err, ap, refl, subst, ◌∙◌}
use Rattle.oauth2_metadata.specs.EndpointFault.{endpoint_fault}
use Rattle.oauth2_metadata.specs.Request.{MetadataQuery, IsChecked}
use Rattle.oauth2_metadata.proofs.request.MetadataRequest.request.Goals as goal

pub returns-in-Ok-Ok-clause-once : goal.returns-in-Ok-Ok-clause-once
returns-in-Ok-Ok-clause-once g c =
    let prepared = c.prepare_request-prepared in
    let m = c.in-Ok-Ok.metadata in
    let once = rw (ap (λ (r : MetadataQuery). r.reply_rule) c.self.view_is, c.in-Ok-Ok.field-0-is) at c.in-Ok-Ok.ensures.once in
    let named = c.as_str.ensures.value ∙ ap (λ (r : MetadataQuery). r.issuer) c.self.view_is in (
      Ok (Ok m),
      subst (λ issuer. IsChecked issuer m (endpoint_fault m.endpoints) c.check_metadata.result) named c.check_metadata.ensures,
      (prepared.result, prepared.ensures.ok, prepared.ensures.not_http, once),
    )

pub returns-in-Ok-Err-clause-once : goal.returns-in-Ok-Err-clause-once
returns-in-Ok-Err-clause-once g c =
    let prepared = c.prepare_request-prepared in
    let once = rw (ap (λ (r : MetadataQuery). r.reply_rule) c.self.view_is, c.in-Ok-Err.field-0-is) at c.in-Ok-Err.ensures.once in (
      Ok (Err c.in-Ok-Err.reply),
      refl,
      (prepared.result, prepared.ensures.ok, prepared.ensures.not_http, once),
    )

pub returns-clause-once : goal.returns-clause-once
returns-clause-once g c =
    let prepared = c.prepare_request-prepared in
    let once = rw (ap (λ (r : MetadataQuery). r.reply_rule) c.self.view_is) at c.in-Err.ensures.once in (
      Err c.in-Err.error,
      refl,
      (prepared.result, prepared.ensures.ok, prepared.ensures.not_http, once),
    )
