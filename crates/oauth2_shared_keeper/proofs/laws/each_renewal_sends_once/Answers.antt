use Rattle.oauth2_shared_keeper.proofs.History.{sends_few, state_after}
use Rattle.oauth2_shared_keeper.proofs.laws.each_renewal_sends_once.Goals as goal

pub returns : goal.returns
returns g c name limits calls result r = sends_few name calls r.last (state_after name calls r.last r.asks)
