use Rattle.oauth2_shared_keeper.proofs.Order.{asked_all, lived_all}
use Rattle.oauth2_shared_keeper.proofs.laws.each_call_is_of_its_rounds.Goals as goal

pub returns : goal.returns
returns g c wait rounds = (asked_all wait rounds, lived_all wait rounds)
