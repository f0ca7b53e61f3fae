use Rattle.oauth2_shared_keeper.proofs.LoginTries.{logs_in_again}
use Rattle.oauth2_shared_keeper.proofs.logins.+log_in.Goals as goal

pub returns-in-Refused-clause-login : goal.returns-in-Refused-clause-login
returns-in-Refused-clause-login g t c =
    logs_in_again g.S.TokenStore.loads g.S.TokenStore.replaces c.args.name.now c.args.tries c.args.token c.in-Refused.refused c.args.store.now c.load.new.store
    c.put.new.store c.log_in.new.store c.load.result c.in-Some.value c.log_in.result c.if-tries-eq0.false c.load.ensures.load c.in-Some.is
    c.in-Refused.ensures.puts c.log_in.ensures.login
