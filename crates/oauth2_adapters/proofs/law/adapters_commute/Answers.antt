use Rattle.oauth2_adapters.proofs.LawLemmas.{one_is_for, types_and_errors, types_and_changes}
use Rattle.oauth2_adapters.proofs.law.adapters_commute.Goals as goal

pub returns-clause-one : goal.returns-clause-one
returns-clause-one c = one_is_for

pub returns-clause-errors : goal.returns-clause-errors
returns-clause-errors c = types_and_errors

pub returns-clause-changes : goal.returns-clause-changes
returns-clause-changes c = types_and_changes
