use Rattle.oauth2_shared_keeper.proofs.History.{sending_is_marked}
use Rattle.oauth2_shared_keeper.proofs.laws.each_sending_is_marked.Goals as goal

pub returns : goal.returns
returns g c name limits before after token given result r = sending_is_marked name before after token given r.last r.asks
