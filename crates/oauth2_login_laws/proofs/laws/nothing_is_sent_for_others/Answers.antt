use Rattle.oauth2_login_laws.proofs.Runs.{nothing_is_sent_for_others}
use Rattle.oauth2_login_laws.proofs.laws.nothing_is_sent_for_others.Goals as goal

pub returns : goal.returns
returns c = nothing_is_sent_for_others
