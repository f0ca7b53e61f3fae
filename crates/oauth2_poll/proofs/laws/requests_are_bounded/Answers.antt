use Rattle.oauth2_poll.proofs.Requests.{requests_are_bounded}
use Rattle.oauth2_poll.proofs.laws.requests_are_bounded.Goals as goal

pub returns : goal.returns
returns c = requests_are_bounded
