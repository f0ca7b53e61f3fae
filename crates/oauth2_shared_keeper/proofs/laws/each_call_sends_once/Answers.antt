use Rattle.oauth2_shared_keeper.proofs.KeeperFacts.{sends_once, few_renewals}
use Rattle.oauth2_shared_keeper.proofs.laws.each_call_sends_once.Goals as goal

pub returns : goal.returns
returns g c is_good settings rounds result h =
    (sends_once is_good settings settings.rounds rounds result h, few_renewals is_good settings settings.rounds rounds result h)
