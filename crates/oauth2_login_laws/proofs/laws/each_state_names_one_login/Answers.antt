use Rattle.oauth2_login_laws.proofs.Counts.{each_state_names_one_login}
use Rattle.oauth2_login_laws.proofs.laws.each_state_names_one_login.Goals as goal

pub returns : goal.returns
returns c = each_state_names_one_login
