use Rattle.oauth2_shared_token.proofs.Sendings.{each_is_sent_at_most_once}
use Rattle.oauth2_shared_token.proofs.laws.each_is_sent_at_most_once.Goals as goal

pub returns : goal.returns
returns c = each_is_sent_at_most_once
