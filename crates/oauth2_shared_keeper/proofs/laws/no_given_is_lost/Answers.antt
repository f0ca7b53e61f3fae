use Rattle.oauth2_shared_keeper.proofs.KeeperFacts.{given_is_told}
use Rattle.oauth2_shared_keeper.proofs.laws.no_given_is_lost.Goals as goal

pub returns : goal.returns
returns g c is_good settings rounds token new result h has = given_is_told is_good settings settings.rounds rounds token new result h has
