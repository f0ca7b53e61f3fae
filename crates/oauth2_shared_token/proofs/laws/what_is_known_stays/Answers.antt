use Rattle.oauth2_shared_token.proofs.Known.{what_is_known_stays}
use Rattle.oauth2_shared_token.proofs.laws.what_is_known_stays.Goals as goal

pub returns : goal.returns
returns c = what_is_known_stays
