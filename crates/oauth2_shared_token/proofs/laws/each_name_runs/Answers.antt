use Rattle.oauth2_shared_token.proofs.Names.{each_name_runs}
use Rattle.oauth2_shared_token.proofs.laws.each_name_runs.Goals as goal

pub returns : goal.returns
returns c = each_name_runs
