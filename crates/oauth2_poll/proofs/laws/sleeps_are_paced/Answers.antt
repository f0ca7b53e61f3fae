use Rattle.oauth2_poll.proofs.Sleeps.{each_sleep_is_paced}
use Rattle.oauth2_poll.proofs.laws.sleeps_are_paced.Goals as goal

pub returns : goal.returns
returns c = each_sleep_is_paced
