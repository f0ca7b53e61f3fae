use Rattle.oauth2_adapters.specs.CommasInScopes.{spaced_scope}
use Rattle.oauth2_adapters.specs.NumbersAsTexts.{number_under}
use Rattle.oauth2_adapters.proofs.LawLemmas.{errors_alone, types_alone, changes_alone, forms_alone}
use Rattle.oauth2_adapters.proofs.law.each_leaves_other_replies_alone.Goals as goal

pub returns-clause-errors : goal.returns-clause-errors
returns-clause-errors c = errors_alone

pub returns-clause-scopes : goal.returns-clause-scopes
returns-clause-scopes c = changes_alone spaced_scope

pub returns-clause-numbers : goal.returns-clause-numbers
returns-clause-numbers c = λ names. changes_alone (number_under names)

pub returns-clause-media_types : goal.returns-clause-media_types
returns-clause-media_types c = types_alone

pub returns-clause-forms : goal.returns-clause-forms
returns-clause-forms c = forms_alone
