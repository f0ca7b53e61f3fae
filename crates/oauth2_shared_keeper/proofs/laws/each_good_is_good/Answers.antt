use Rattle.oauth2_shared_keeper.proofs.KeeperFacts.{good_is_good}
use Rattle.oauth2_shared_keeper.proofs.laws.each_good_is_good.Goals as goal

pub returns : goal.returns
returns g c is_good settings rounds token h = good_is_good is_good settings settings.rounds rounds token h
