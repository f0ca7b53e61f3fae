use Rattle.oauth2_shared_token.proofs.Names.{each_is_sent_once_over_names}
use Rattle.oauth2_shared_token.proofs.laws.each_is_sent_once_over_names.Goals as goal

pub returns : goal.returns
returns c = each_is_sent_once_over_names
