use Rattle.oauth2_shared_token.proofs.Standing.{one_runs_at_once}
use Rattle.oauth2_shared_token.proofs.laws.one_runs_at_once.Goals as goal

pub returns : goal.returns
returns c = one_runs_at_once
