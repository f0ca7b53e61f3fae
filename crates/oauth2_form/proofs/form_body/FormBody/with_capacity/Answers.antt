use Rattle.std.proofs.Common.{ap, ◌∙◌}
use Rattle.form_urlencoded.specs.Form.{parse}
use Rattle.oauth2_form.proofs.FormLaws.{parse-nil}
use Rattle.oauth2_form.proofs.WrittenLemmas.{IsWritten_nothing}
use Rattle.oauth2_form.proofs.form_body.FormBody.with_capacity.Goals as goal

pub invariant_of-result : goal.invariant_of-result
invariant_of-result c = IsWritten_nothing _ c.in_ok-text.ensures.items

pub returns : goal.returns
returns c = ap parse c.in_ok-text.ensures.items ∙ parse-nil
