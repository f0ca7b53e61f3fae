use Rattle.oauth2_pushed_requests.proofs.PushLaws.{IsPushOf-request}
use Rattle.oauth2_pushed_requests.proofs.laws.push_law.Goals as goal

pub returns : goal.returns
returns c = IsPushOf-request
