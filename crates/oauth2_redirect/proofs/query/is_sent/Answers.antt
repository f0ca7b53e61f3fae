use Rattle.std.proofs.Common.{sym, ◌∙◌}
use Rattle.form_urlencoded.specs.Form.{decode}
use Rattle.oauth2_redirect.proofs.Values.{no_value, some_value}
use Rattle.oauth2_redirect.proofs.query.is_sent.Goals as goal

pub returns-then-is_empty : goal.returns-then-is_empty
returns-then-is_empty c = no_value (decode c.args.bearer.now) c.args.value.now c.args.name.now (sym c.if-is_empty.ensures)

pub returns : goal.returns
returns c = c.decodes_to.ensures ∙ some_value (decode c.args.bearer.now) c.args.value.now c.args.name.now (sym c.if-is_empty.ensures)
