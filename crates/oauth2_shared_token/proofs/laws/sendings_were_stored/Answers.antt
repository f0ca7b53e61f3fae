use Rattle.oauth2_shared_token.proofs.Sendings.{each_sending_was_stored}
use Rattle.oauth2_shared_token.proofs.laws.sendings_were_stored.Goals as goal

pub returns : goal.returns
returns c = each_sending_was_stored
