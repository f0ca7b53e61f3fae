use Rattle.std.proofs.Common.{◌≡◌, ◌*◌, ◌%◌, sym, ◌∙◌}
use Rattle.ecdsa_signatures.specs.Curve.{prime}
use Rattle.ecdsa_signatures.specs.private.Coordinates.{value}
use Rattle.ecdsa_signatures.specs.private.Forms.{held}
use Rattle.ecdsa_signatures.proofs.jacobian.is_quotient.Goals as goal

pub returns : goal.returns
returns c =
    let k = c.args.curve in
    let is : held k c.times-product.result ≡ (value k c.args.a.now * held k c.args.z.now) % prime k =
    c.times-product.ensures.held ∙ (λ j. (c.to_form-form.ensures.held j * held k c.args.z.now) % prime k) in
    (λ t. sym is ∙ c.is_same.ensures.0 t, λ e. c.is_same.ensures.1 (is ∙ e))
