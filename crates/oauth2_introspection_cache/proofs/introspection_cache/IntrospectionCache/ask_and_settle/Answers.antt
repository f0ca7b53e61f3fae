use Rattle.std.proofs.Common.{rules, ◌≡◌, Err, refl, subst}
use Rattle.std.specs.Prelude.{false}
use Rattle.oauth2_wire.specs.Once.{AsksOnce}
use Rattle.oauth2_wire.specs.Reply.{answer_of}
use Rattle.oauth2_wire.specs.declared.error.RequestTokenError.TheVariants.{Memory}
use Rattle.oauth2_wire.specs.declared.request.RequestFault.TheVariants as fault
use Rattle.oauth2_introspection_cache.specs.private.Settled.{Settles}
use Rattle.oauth2_introspection_cache.proofs.Asking.{asks_by}
use Rattle.oauth2_introspection_cache.proofs.introspection_cache.IntrospectionCache.ask_and_settle.Goals as goal

pub returns-in-Ok-clause-settles : goal.returns-in-Ok-clause-settles
returns-in-Ok-clause-settles g c =
    let same : c.in-Ok.copy ≡ c.args.token.now = search rules in (
      c.request-answer.result,
      asks_by (λ rule. AsksOnce g.TIR.FromJson.meaning g.TE.FromJson.meaning g.C.SyncHttpClient.step
          (answer_of rule g.TIR.FromJson.reading g.TE.FromJson.reading))
          c.args.self.now c.args.token.now _ _ _ c.introspect-request.result (search rules) (search rules) c.request-answer.ensures.once,
      subst (λ text. Settles g.TIR.TokenIntrospectionResponse.active c.args.self.now text c.args.now.nanosecond c.request-answer.result c.settle.result c.settle.new.self) same c.settle.ensures.settles,
    )

pub returns-in-Err-clause-settles : goal.returns-in-Err-clause-settles
returns-in-Err-clause-settles g c =
    (Err (Memory false), (c.introspect-request.result.introspection_url, search rules, (Err fault.Memory, tt, (λ same. cc), (refl, refl))), (refl, refl))
