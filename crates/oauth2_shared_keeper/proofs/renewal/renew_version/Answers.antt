use Rattle.std.proofs.Common.{◌++◌}
use Rattle.oauth2_shared_keeper.proofs.Runs.{store-append, client-append, client-unsent}
use Rattle.oauth2_shared_keeper.proofs.Parts.{marked_then, lost, unclear}
use Rattle.oauth2_shared_keeper.proofs.renewal.renew_version.Goals as goal

pub returns-in-Taken-clause-renewal : goal.returns-in-Taken-clause-renewal
returns-in-Taken-clause-renewal g c =
    let m = c.in-Taken.ensures.marking in
    let s = c.send.ensures.renewal in
    let client = c.args.client.now in (
      m.0 ++ s.0,
      store-append g.S.TokenStore.loads g.S.TokenStore.replaces c.args.name.now c.args.store.now c.mark.new.store c.send.new.store m.0 s.0 m.1 s.1,
      client-append g.C.RefreshClient.refreshes client client c.send.new.client m.0 s.0 (client-unsent g.C.RefreshClient.refreshes client m.0 m.2.3.unsent) s.2,
      marked_then c.args.renewal c.args.version c.args.token c.in-Taken.token c.args.limits.loads c.args.limits.repeats m.2.1 m.0 s.0 c.send.result m.2.0 m.2.2 m.2.3 s.3,
    )

pub returns-in-Passed-clause-renewal : goal.returns-in-Passed-clause-renewal
returns-in-Passed-clause-renewal g c =
    let m = c.in-Passed.ensures.marking in (
      m.0,
      m.1,
      client-unsent g.C.RefreshClient.refreshes c.args.client.now m.0 m.2.2.unsent,
      lost c.args.renewal c.args.version c.args.token c.args.limits.loads c.args.limits.repeats m.2.0 m.2.3 m.0 m.2.1 m.2.2 m.2.4,
    )

pub returns-in-Open-clause-renewal : goal.returns-in-Open-clause-renewal
returns-in-Open-clause-renewal g c =
    let m = c.in-Open.ensures.marking in (
      m.0,
      m.1,
      client-unsent g.C.RefreshClient.refreshes c.args.client.now m.0 m.2.1.unsent,
      unclear c.args.renewal c.args.version c.args.token c.in-Open.token c.args.limits.loads c.args.limits.repeats m.0 m.2.0 m.2.1,
    )
