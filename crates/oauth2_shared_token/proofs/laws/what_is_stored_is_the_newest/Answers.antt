use Rattle.oauth2_shared_token.proofs.Newest.{what_is_stored_is_the_newest}
use Rattle.oauth2_shared_token.proofs.laws.what_is_stored_is_the_newest.Goals as goal

pub returns : goal.returns
returns c = what_is_stored_is_the_newest
