use Rattle.oauth2_shared_keeper.proofs.logins.+log_out.Given as goal

abbrev pub decreases-log_out : goal.decreases-log_out
decreases-log_out g l = l.tries
