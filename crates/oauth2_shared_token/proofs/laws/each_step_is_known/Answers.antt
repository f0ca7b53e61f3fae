use Rattle.oauth2_shared_token.proofs.Known.{each_step_is_known}
use Rattle.oauth2_shared_token.proofs.laws.each_step_is_known.Goals as goal

pub returns : goal.returns
returns c = each_step_is_known
