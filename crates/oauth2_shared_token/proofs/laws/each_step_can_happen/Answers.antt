use Rattle.oauth2_shared_token.proofs.Steps.{each_step_can_happen}
use Rattle.oauth2_shared_token.proofs.laws.each_step_can_happen.Goals as goal

pub returns : goal.returns
returns c = each_step_can_happen
