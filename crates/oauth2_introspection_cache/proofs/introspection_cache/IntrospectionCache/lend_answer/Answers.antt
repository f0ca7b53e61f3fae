use Rattle.std.proofs.Common.{rules, Ok, refl, subst}
use Rattle.oauth2_wire.specs.Once.{AsksOnce}
use Rattle.oauth2_wire.specs.Reply.{answer_of}
use Rattle.oauth2_introspection_cache.specs.Cache.{CacheCalls}
use Rattle.oauth2_introspection_cache.proofs.introspection_cache.IntrospectionCache.lend_answer.Goals as goal

pub returns-in-Ok-true : goal.returns-in-Ok-true
returns-in-Ok-true g c = (
  (
    refl,
    (λ kept. tt),
    (
      refl,
      (
        subst (λ said. CacheCalls (λ rule. AsksOnce g.TIR.FromJson.meaning g.TE.FromJson.meaning g.C.SyncHttpClient.step
            (answer_of rule g.TIR.FromJson.reading g.TE.FromJson.reading))
            g.TIR.TokenIntrospectionResponse.active g.TIR.TokenIntrospectionResponse.exp c.args.self.now c.args.token.now c.args.now.nanosecond c.args.http_client.now (Ok said) c.is_active.new.http_client c.is_active.new.self)
            (search rules) c.in-Ok-true.ensures.call,
        (c.unwrap.result.now, search rules, refl),
      ),
    ),
  ),
  record { rests = tt; ready = c.in-Ok-true.ensures.ready },
)
