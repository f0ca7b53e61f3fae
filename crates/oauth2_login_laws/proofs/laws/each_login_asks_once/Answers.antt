use Rattle.oauth2_login_laws.proofs.Counts.{each_login_asks_once}
use Rattle.oauth2_login_laws.proofs.laws.each_login_asks_once.Goals as goal

pub returns : goal.returns
returns c = each_login_asks_once
