use Rattle.std.proofs.Common.{◌≡◌, ap, ◌∙◌}
use Rattle.ecdsa_signatures.specs.Curve.{prime, inverse}
use Rattle.ecdsa_signatures.specs.private.Forms.{held}
use Rattle.ecdsa_signatures.proofs.Forms.{prime-certified, held-below, not_zero}
use Rattle.ecdsa_signatures.proofs.Points.{affine-infinity, affine-stands}
use Rattle.modular_arithmetic.proofs.Same.{same_mod}
use Rattle.ecdsa_signatures.proofs.jacobian.affine.Goals as goal

pub returns-then-is_zero-clause-value : goal.returns-then-is_zero-clause-value
returns-then-is_zero-clause-value c =
    let k = c.args.curve in
    let p = c.args.p.now in
    affine-infinity (prime k) (held k p.x) (held k p.y) (held k p.z) (held-below k p.z ∙ c.is_zero.ensures.0 c.if-is_zero.true)

pub returns-clause-value : goal.returns-clause-value
returns-clause-value c =
    let k = c.args.curve in
    let m = prime k in
    let p = c.args.p.now in
    let nz = not_zero k p.z c.is_zero.result c.is_zero.ensures c.if-is_zero.false in
    let i = held k c.to_form-inverse.result in
    let j = held k c.square-inverse_square.result in
    let t = held k c.times-inverse_cube.result in
    let i-is : i ≡ inverse m (held k p.z) = c.to_form-inverse.ensures.held ∙ c.invert-number.ensures.value ∙ ap (inverse m) c.from_form-z.ensures in
    affine-stands m (prime-certified k) (held k p.x) (held k p.y) (held k p.z) i j t _ _ nz i-is
    (same_mod m j _ c.square-inverse_square.ensures.held) (same_mod m t _ c.times-inverse_cube.ensures.held)
    c.times-x.ensures.held c.times-y.ensures.held
