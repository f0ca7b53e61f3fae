use Rattle.oauth2_login_laws.proofs.Counts.{each_login_finishes_once}
use Rattle.oauth2_login_laws.proofs.laws.each_login_finishes_once.Goals as goal

pub returns : goal.returns
returns c = each_login_finishes_once
