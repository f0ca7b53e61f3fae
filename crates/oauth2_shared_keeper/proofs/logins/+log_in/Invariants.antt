use Rattle.oauth2_shared_keeper.proofs.logins.+log_in.Given as goal

abbrev pub decreases-log_in : goal.decreases-log_in
decreases-log_in g l = l.tries
