use Rattle.oauth2_shared_token.proofs.Fleets.{each_handed_out_was_stored}
use Rattle.oauth2_shared_token.proofs.laws.each_handed_out_was_stored.Goals as goal

pub returns : goal.returns
returns c = each_handed_out_was_stored
