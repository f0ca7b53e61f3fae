use Rattle.oauth2_shared_token.proofs.Standing.{none_is_lost_untold}
use Rattle.oauth2_shared_token.proofs.laws.none_is_lost_untold.Goals as goal

pub returns : goal.returns
returns c = none_is_lost_untold
