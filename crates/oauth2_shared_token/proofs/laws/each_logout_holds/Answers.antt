use Rattle.oauth2_shared_token.proofs.Logouts.{each_logout_holds}
use Rattle.oauth2_shared_token.proofs.laws.each_logout_holds.Goals as goal

pub returns : goal.returns
returns c = each_logout_holds
