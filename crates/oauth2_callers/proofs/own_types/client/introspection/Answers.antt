use Rattle.oauth2_requests.specs.TokenIntrospection.{introspection_configuration}
use Rattle.oauth2_callers.proofs.EqualRequests.{AsksOnce-equal}
use Rattle.oauth2_callers.proofs.own_types.client.introspection.Goals as goal

pub returns-clause-once : goal.returns-clause-once
returns-clause-once g c =
    let started = c.introspect in
    (started.result.introspection_url, started.ensures.url, AsksOnce-equal _ _ _ _ g.C.SyncHttpClient.step (λ r. r.base.reply_rule) introspection_configuration started.result _ started.result.introspection_url _ c.request.result _ started.ensures.new c.request.ensures.once)
