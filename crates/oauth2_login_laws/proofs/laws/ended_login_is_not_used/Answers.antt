use Rattle.oauth2_login_laws.proofs.Counts.{ended_login_is_not_used}
use Rattle.oauth2_login_laws.proofs.laws.ended_login_is_not_used.Goals as goal

pub returns : goal.returns
returns c = ended_login_is_not_used
