use Rattle.oauth2_shared_keeper.proofs.KeeperSendings.{sending_is_of_a_renewal}
use Rattle.oauth2_shared_keeper.proofs.laws.each_sending_is_of_a_renewal.Goals as goal

pub returns : goal.returns
returns g c is_good settings rounds result token given h has =
    sending_is_of_a_renewal is_good settings token given settings.rounds rounds result h has
