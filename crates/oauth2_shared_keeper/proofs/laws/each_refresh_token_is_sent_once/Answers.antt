use Rattle.oauth2_shared_keeper.proofs.FleetFacts.{each_refresh_token_is_sent_once}
use Rattle.oauth2_shared_keeper.proofs.laws.each_refresh_token_is_sent_once.Goals as goal

pub returns : goal.returns
returns g c = each_refresh_token_is_sent_once _
