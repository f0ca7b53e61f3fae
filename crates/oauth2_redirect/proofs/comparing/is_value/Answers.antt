use Rattle.std.proofs.Common.{sym, ◌∙◌}
use Rattle.form_urlencoded.specs.Form.{decode}
use Rattle.oauth2_redirect.proofs.Visible.{visible-eq}
use Rattle.oauth2_redirect.proofs.comparing.is_value.Goals as goal

pub returns-then-is_visible-clause-is : goal.returns-then-is_visible-clause-is
returns-then-is_visible-clause-is c =
    let seen = sym c.is_visible.ensures ∙ c.if-is_visible.true in
    c.decodes_to.ensures ∙ visible-eq (decode c.args.encoded.now) c.args.text.now (rw c.as_bytes.ensures.value at seen)
