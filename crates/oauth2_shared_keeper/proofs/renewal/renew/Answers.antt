use Rattle.std.proofs.Common.{◌≡◌, ◌+◌, ◌-◌, None, Some, [], ◌∷◌, ◌++◌, refl, sym, subst, arith}
use Rattle.oauth2_shared_keeper.specs.Call.{Load, ClientLeads}
use Rattle.oauth2_shared_keeper.specs.Renewal.{first_turn}
use Rattle.oauth2_shared_keeper.proofs.Runs.{store-append, one_load, client-append, client-unsent, passes-append}
use Rattle.oauth2_shared_keeper.proofs.Parts.{seen_then, unread, looked_first_in_vain}
use Rattle.oauth2_shared_keeper.proofs.renewal.renew.Goals as goal

pub returns-in-Some-clause-renewal : goal.returns-in-Some-clause-renewal
returns-in-Some-clause-renewal g c =
    let i = c.loop-left.invariant.so_far in
    let l = c.in-Some.ensures.load in
    let s = c.renew_value.ensures.renewal in
    let a = c.args in
    let u = i.2.1 in
    let p = c.in-Some.value in
    let sum : i.2.0 + (1 + (c.loop-left.left - 1)) ≡ a.limits.loads = omega arith in
    let rest = subst (λ k. ClientLeads g.C.RefreshClient.refreshes k s.0 c.renew_value.new.client) c.loop-left.invariant.client s.2 in (
      i.0 ++ Load (Some p) ∷ s.0,
      store-append g.S.TokenStore.loads g.S.TokenStore.replaces a.name.now a.store.now c.loop-left.store c.renew_value.new.store i.0 (Load (Some p) ∷ s.0) i.1 (l.0, c.load.new.store, l.1, l.2, s.1),
      client-append g.C.RefreshClient.refreshes a.client.now a.client.now c.renew_value.new.client i.0 (Load (Some p) ∷ s.0) (client-unsent g.C.RefreshClient.refreshes a.client.now i.0 i.2.2.unsent) rest,
      seen_then a.renewal p a.limits.loads (c.loop-left.left - 1) (a.limits.repeats + 2) i.2.0 i.0 s.0 c.renew_value.result sum i.2.2 s.3,
    )

pub loop-left-init : goal.loop-left-init
loop-left-init g c =
    record {
      ready = c.requires.store;
      client = refl;
      so_far = ([], refl, (0, omega arith, record { asks = refl; loads_are = refl; replacements_are = refl; unsent = refl }));
    }

pub loop-left-preserved : goal.loop-left-preserved
loop-left-preserved g c =
    let i = c.loop-left.invariant.so_far in
    let l = c.load.ensures.load in
    let a = c.args in
    let u = i.2.1 in
    record {
      ready = c.load.ensures.ready;
      client = c.loop-left.invariant.client;
      so_far = (
        i.0 ++ Load None ∷ [],
        store-append g.S.TokenStore.loads g.S.TokenStore.replaces a.name.now a.store.now c.loop-left.store c.load.new.store i.0 (Load None ∷ []) i.1
            (one_load g.S.TokenStore.loads g.S.TokenStore.replaces a.name.now c.loop-left.store c.load.new.store None c.in_default.ensures.load),
        (i.2.0 + 1, omega arith, passes-append a.renewal first_turn first_turn first_turn i.0 (Load None ∷ []) i.2.0 1 0 0 i.2.2 (looked_first_in_vain a.renewal)),
      );
    }

pub returns-clause-renewal : goal.returns-clause-renewal
returns-clause-renewal g c =
    let i = c.loop-left.invariant.so_far in
    let a = c.args in
    let u = i.2.1 in
    let all : i.2.0 ≡ a.limits.loads = omega arith in (
      i.0,
      i.1,
      subst (λ k. ClientLeads g.C.RefreshClient.refreshes a.client.now i.0 k) (sym c.loop-left.invariant.client) (client-unsent g.C.RefreshClient.refreshes a.client.now i.0 i.2.2.unsent),
      unread a.renewal a.limits.loads (a.limits.repeats + 2) i.2.0 i.0 all i.2.2,
    )
