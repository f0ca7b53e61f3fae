use Rattle.std.proofs.Common.{rules, ◌≡◌, Ok, sym, subst}
use Rattle.std.specs.Prelude.{true, IsSome}
use Rattle.oauth2_wire.specs.Once.{AsksOnce}
use Rattle.oauth2_wire.specs.Reply.{answer_of}
use Rattle.oauth2_introspection_cache.specs.Cache.{Cache, CacheCalls, kept_answer, forgetting, promoting}
use Rattle.oauth2_introspection_cache.specs.private.Settled.{AsksAndSettles}
use Rattle.oauth2_introspection_cache.proofs.Calls.{remembers, settled}
use Rattle.oauth2_introspection_cache.proofs.introspection_cache.IntrospectionCache.is_active.Goals as goal

pub returns-then-is_good-clause-call : goal.returns-then-is_good-clause-call
returns-then-is_good-clause-call g c =
    let used : c.note_use.new.self ≡ promoting c.args.self.now c.args.token.now = search rules in
    subst (λ (next : Cache g.row.TIR.Denot). CacheCalls (λ rule. AsksOnce g.TIR.FromJson.meaning g.TE.FromJson.meaning g.C.SyncHttpClient.step
    (answer_of rule g.TIR.FromJson.reading g.TE.FromJson.reading))
    g.TIR.TokenIntrospectionResponse.active g.TIR.TokenIntrospectionResponse.exp c.args.self.now c.args.token.now c.args.now.nanosecond c.args.http_client.now (Ok true) c.args.http_client.now next) (sym used)
    (remembers (λ rule. AsksOnce g.TIR.FromJson.meaning g.TE.FromJson.meaning g.C.SyncHttpClient.step
    (answer_of rule g.TIR.FromJson.reading g.TE.FromJson.reading))
    g.TIR.TokenIntrospectionResponse.active g.TIR.TokenIntrospectionResponse.exp c.args.self.now c.args.token.now c.args.now.nanosecond c.args.http_client.now (search rules)).0

pub returns-then-is_good-clause-kept : goal.returns-then-is_good-clause-kept
returns-then-is_good-clause-kept g c same =
    let used : c.note_use.new.self ≡ promoting c.args.self.now c.args.token.now = search rules in
    subst (λ (next : Cache g.row.TIR.Denot). IsSome (kept_answer next c.args.token.now)) (sym used)
    (remembers (λ rule. AsksOnce g.TIR.FromJson.meaning g.TE.FromJson.meaning g.C.SyncHttpClient.step
    (answer_of rule g.TIR.FromJson.reading g.TE.FromJson.reading))
    g.TIR.TokenIntrospectionResponse.active g.TIR.TokenIntrospectionResponse.exp c.args.self.now c.args.token.now c.args.now.nanosecond c.args.http_client.now (search rules)).1

pub returns-clause-call : goal.returns-clause-call
returns-clause-call g c =
    let forgot : c.forget.new.self ≡ forgetting c.args.self.now c.args.token.now = search rules in
    settled (λ rule. AsksOnce g.TIR.FromJson.meaning g.TE.FromJson.meaning g.C.SyncHttpClient.step
    (answer_of rule g.TIR.FromJson.reading g.TE.FromJson.reading))
    g.TIR.TokenIntrospectionResponse.active g.TIR.TokenIntrospectionResponse.exp c.args.self.now c.args.token.now c.args.now.nanosecond c.args.http_client.now (search rules)
    c.ask_and_settle.new.http_client c.ask_and_settle.result c.ask_and_settle.new.self
    (subst (λ (cache : Cache g.row.TIR.Denot). AsksAndSettles g.TIR.TokenIntrospectionResponse.active (λ rule. AsksOnce g.TIR.FromJson.meaning g.TE.FromJson.meaning g.C.SyncHttpClient.step
    (answer_of rule g.TIR.FromJson.reading g.TE.FromJson.reading))
    cache c.args.token.now c.args.now.nanosecond c.args.http_client.now c.ask_and_settle.result c.ask_and_settle.new.http_client c.ask_and_settle.new.self)
    forgot c.ask_and_settle.ensures.settles)
