use Rattle.oauth2_shared_token.proofs.Loads.{each_read_was_stored}
use Rattle.oauth2_shared_token.proofs.laws.each_read_was_stored.Goals as goal

pub returns : goal.returns
returns c = each_read_was_stored
