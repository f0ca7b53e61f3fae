use Rattle.std.proofs.Common.{refl, sym, ◌∙◌}
use Rattle.oauth2_redirect.proofs.Visible.{plus-unseen, decode-of_escapes}
use Rattle.oauth2_redirect.proofs.comparing.visible_digest.Goals as goal

pub returns-then-contains : goal.returns-then-contains
returns-then-contains c = rw (plus-unseen c.args.encoded.now (sym c.contains.ensures.value ∙ c.if-contains.true)) refl

pub returns : goal.returns
returns c = rw (sym (decode-of_escapes c.args.encoded.now (sym c.contains.ensures.value ∙ c.if-contains.false))) c.unescaped_digest.ensures
