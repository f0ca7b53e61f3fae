use Rattle.oauth2_shared_token.proofs.Latest.{the_newest_given_is_stored}
use Rattle.oauth2_shared_token.proofs.laws.the_newest_given_is_stored.Goals as goal

pub returns : goal.returns
returns c = the_newest_given_is_stored
