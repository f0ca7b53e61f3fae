use Rattle.oauth2_shared_token.proofs.Names.{sendings_over_names_were_stored}
use Rattle.oauth2_shared_token.proofs.laws.sendings_over_names_were_stored.Goals as goal

pub returns : goal.returns
returns c = sendings_over_names_were_stored
