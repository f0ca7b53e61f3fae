use Rattle.std.proofs.Common.{refl, sym}
use Rattle.oauth2_shared_keeper.specs.Keeper.{Seen, Renewing}
use Rattle.oauth2_shared_keeper.proofs.Rounds.{timed-asked}
use Rattle.oauth2_shared_keeper.proofs.Unsent.{unsent_if_waits}
use Rattle.oauth2_shared_keeper.proofs.shared_keeper.round.Goals as goal

pub returns-in-Some-verdict-clause-round : goal.returns-in-Some-verdict-clause-round
returns-in-Some-verdict-clause-round g c =
    let l = c.in-Some.ensures.load in (
      Seen c.in-Some.value c.now-now.result,
      (c.load.new.store, (l.0, c.load.new.store, l.1, l.2, refl), (c.now-now.new.self, (c.now-now.new.self, c.now-now.ensures.reads, refl), refl)),
      refl,
      sym c.in-Some-verdict.ensures,
    )

pub returns-in-None-clause-round : goal.returns-in-None-clause-round
returns-in-None-clause-round g c =
    let l = c.in-Some.ensures.load in
    let r = c.renew-renewed.ensures.renewal in (
      Renewing c.in-Some.value c.now-now.result c.draw-renewal.result r.0 c.renew-renewed.result,
      (
        c.load.new.store,
        (l.0, c.load.new.store, l.1, l.2, refl),
        (
          c.now-now.new.self,
          (c.now-now.new.self, c.now-now.ensures.reads, refl),
          (
            c.draw-renewal.new.self,
            (c.draw-renewal.new.self, c.draw-renewal.ensures.draws, refl),
            timed-asked g.S.TokenStore.loads g.S.TokenStore.replaces g.S.TimedStore.reads g.S.TimedStore.sleeps g.S.TimedStore.draws c.args.name.now
                c.draw-renewal.new.self c.renew-renewed.new.store r.0 r.1,
          ),
        ),
      ),
      r.2,
      (sym c.in-None.ensures, r.3, c.after_renewal.ensures),
    )

pub returns-in-None-clause-unsent : goal.returns-in-None-clause-unsent
returns-in-None-clause-unsent g c =
    let r = c.renew-renewed.ensures.renewal in
    unsent_if_waits c.draw-renewal.result g.C.RefreshClient.refreshes c.args.client.now c.renew-renewed.new.client
    c.args.settings.limits r.0 c.renew-renewed.result c.after_renewal.result c.after_renewal.ensures r.2 r.3
