use Rattle.std.proofs.Common.{refl, sym, ◌∙◌}
use Rattle.oauth2_redirect.proofs.Visible.{plus-other_text, decode-of_escapes}
use Rattle.oauth2_redirect.proofs.query.decodes_to.Goals as goal

pub returns-then-contains : goal.returns-then-contains
returns-then-contains c =
    plus-other_text c.args.encoded.now c.args.text.now c.requires (sym c.contains.ensures.value ∙ c.if-contains.true)

pub returns : goal.returns
returns c =
    let none = decode-of_escapes c.args.encoded.now (sym c.contains.ensures.value ∙ c.if-contains.false) in
    c.unescapes_to.ensures ∙ rw (none, c.as_bytes.ensures.value) refl
