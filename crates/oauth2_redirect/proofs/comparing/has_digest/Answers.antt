use Rattle.std.proofs.Common.{◌≡◌, true, sym, ap, ◌∙◌, refl}
use Rattle.form_urlencoded.specs.Form.{decode}
use Rattle.oauth2_redirect.specs.Query.{is_visible}
use Rattle.oauth2_redirect.proofs.Visible.{lossy-visible, visible-lossy, told-digest, no-digest}
use Rattle.oauth2_redirect.proofs.comparing.has_digest.Goals as goal

pub returns-in_err-told-in-None-clause-visible : goal.returns-in_err-told-in-None-clause-visible
returns-in_err-told-in-None-clause-visible c = λ seen.
    let bytes = decode c.args.encoded.now in
    let is : is_visible bytes ≡ true = ap is_visible (sym (visible-lossy bytes seen)) ∙ seen in
    absurd (no-digest bytes (sym c.visible_digest.ensures ∙ c.in-None.is) is)

pub returns-in-Some-clause-has : goal.returns-in-Some-clause-has
returns-in-Some-clause-has c =
    let bytes = decode c.args.encoded.now in
    let each = told-digest bytes c.in-Some.told (sym c.visible_digest.ensures ∙ c.in-Some.is) in
    c.eq.ensures ∙ rw (lossy-visible bytes each.0, each.1, c.digest-digest.ensures, c.as_bytes.ensures.value) refl
