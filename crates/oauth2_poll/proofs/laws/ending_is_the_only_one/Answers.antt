use Rattle.oauth2_poll.proofs.OneEnding.{each_ending_is_the_only_one}
use Rattle.oauth2_poll.proofs.laws.ending_is_the_only_one.Goals as goal

pub returns : goal.returns
returns c = each_ending_is_the_only_one
