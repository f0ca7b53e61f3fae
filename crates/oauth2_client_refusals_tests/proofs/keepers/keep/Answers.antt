use Rattle.std.proofs.Common.{rules}
use Rattle.oauth2_client_refusals_tests.proofs.Kept.{told_of_call}
use Rattle.oauth2_client_refusals_tests.proofs.keepers.keep.Goals as goal

pub returns-clause-calls : goal.returns-clause-calls
returns-clause-calls c = told_of_call _ _ _ _ (search rules) _ _ _ _ _ _ _ c.keep_good.ensures.call
