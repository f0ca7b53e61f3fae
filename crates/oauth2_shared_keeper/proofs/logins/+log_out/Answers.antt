use Rattle.oauth2_shared_keeper.proofs.LoginTries.{logs_out_again}
use Rattle.oauth2_shared_keeper.proofs.logins.+log_out.Goals as goal

pub returns-in-Refused-clause-logout : goal.returns-in-Refused-clause-logout
returns-in-Refused-clause-logout g t c =
    logs_out_again g.S.TokenStore.loads g.S.TokenStore.replaces c.args.name.now c.args.tries c.args.store.now c.load.new.store
    c.drop_at.new.store c.log_out.new.store c.load.result c.in-Some.value c.log_out.result c.if-tries-eq0.false c.load.ensures.load c.in-Some.is
    c.in-Refused.ensures.drops c.log_out.ensures.logout
