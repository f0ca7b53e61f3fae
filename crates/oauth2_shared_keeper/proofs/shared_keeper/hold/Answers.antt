use Rattle.std.proofs.Common.{◌≡◌, ◌+◌, [], ◌∷◌, ◌++◌, length, sym, ◌∙◌, arith, inl, inr, length-append}
use Rattle.oauth2_shared_keeper.proofs.Rounds.{client-push, timed-last, timed-slept, each_waits-push, holds_after}
use Rattle.oauth2_shared_keeper.proofs.shared_keeper.hold.Goals as goal

pub returns-in-Ends-clause-call : goal.returns-in-Ends-clause-call
returns-in-Ends-clause-call g c =
    let i = c.loop-left.invariant.so_far in
    let t = c.in-Ends.ensures.round in
    let a = c.args in
    let sum : a.settings.rounds ≡ length i.0 + c.loop-left.left = sym i.4 in (
      i.0 ++ t.0 ∷ [],
      timed-last g.S.TokenStore.loads g.S.TokenStore.replaces g.S.TimedStore.reads g.S.TimedStore.sleeps g.S.TimedStore.draws a.name.now
          a.store.now c.loop-left.store c.round.new.store a.settings.wait i.0 t.0 i.1 t.1,
      client-push g.C.RefreshClient.refreshes a.client.now c.loop-left.client c.round.new.client i.0 t.0 i.2 t.2,
      holds_after g.T.SharedToken.is_good a.settings i.0 t.0 c.loop-left.left a.settings.rounds c.in-Ends.told i.3 sum
          (omega arith, inl t.3),
    )

pub returns-then-left-eq0-clause-call : goal.returns-then-left-eq0-clause-call
returns-then-left-eq0-clause-call g c =
    let i = c.loop-left.invariant.so_far in
    let t = c.in-Waits.ensures.round in
    let a = c.args in
    let sum : a.settings.rounds ≡ length i.0 + c.loop-left.left = sym i.4 in (
      i.0 ++ t.0 ∷ [],
      timed-last g.S.TokenStore.loads g.S.TokenStore.replaces g.S.TimedStore.reads g.S.TimedStore.sleeps g.S.TimedStore.draws a.name.now
          a.store.now c.loop-left.store c.round.new.store a.settings.wait i.0 t.0 i.1 t.1,
      client-push g.C.RefreshClient.refreshes a.client.now c.loop-left.client c.round.new.client i.0 t.0 i.2 t.2,
      holds_after g.T.SharedToken.is_good a.settings i.0 t.0 c.loop-left.left a.settings.rounds c.in-Waits.told i.3 sum
          (omega arith, inr (omega arith, t.3)),
    )

pub loop-left-preserved : goal.loop-left-preserved
loop-left-preserved g c =
    let i = c.loop-left.invariant.so_far in
    let t = c.in-Waits.ensures.round in
    let a = c.args in
    let sum = i.4 in
    record {
      store = c.sleep.ensures.ready;
      client = c.round.ensures.client;
      unsent = c.loop-left.invariant.unsent ∙ c.in-Waits.ensures.unsent;
      so_far = (
        i.0 ++ t.0 ∷ [],
        timed-slept g.S.TokenStore.loads g.S.TokenStore.replaces g.S.TimedStore.reads g.S.TimedStore.sleeps g.S.TimedStore.draws a.name.now
            a.store.now c.loop-left.store c.round.new.store c.sleep.new.self a.settings.wait i.0 t.0 i.1 t.1 c.sleep.ensures.sleeps,
        client-push g.C.RefreshClient.refreshes a.client.now c.loop-left.client c.round.new.client i.0 t.0 i.2 t.2,
        each_waits-push g.T.SharedToken.is_good a.settings i.0 t.0 c.in-Waits.told i.3 t.3,
        rw length-append (omega arith),
        λ none. absurd (omega arith),
      );
    }
