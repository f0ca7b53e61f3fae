use Rattle.std.proofs.Common.{◌∙◌}
use Rattle.ecdsa_signatures.specs.Curve.{prime}
use Rattle.ecdsa_signatures.specs.private.Forms.{held}
use Rattle.ecdsa_signatures.proofs.Forms.{prime-certified, held-below, not_zero, held-lt}
use Rattle.ecdsa_signatures.proofs.Points.{add-first_stands, add-same_stands, add-other_stands, add-stands, compared-by, added-by}
use Rattle.modular_arithmetic.proofs.Same.{same_of}
use Rattle.ecdsa_signatures.proofs.jacobian.add_affine.Goals as goal

pub returns-then-is_zero-clause-point : goal.returns-then-is_zero-clause-point
returns-then-is_zero-clause-point c =
    let k = c.args.curve in
    let p = c.args.p.now in
    let zero = c.is_zero.ensures.0 c.if-is_zero.true in
    add-first_stands (prime k) (held k p.x) (held k p.y) (held k p.z) _ _ _ _ _ (held-below k p.z ∙ zero) c.with_affine.ensures.point

pub returns-then-is_zero-3-clause-point : goal.returns-then-is_zero-3-clause-point
returns-then-is_zero-3-clause-point c =
    let k = c.args.curve in
    let m = prime k in
    let p = c.args.p.now in
    let q = c.args.q.now in
    let nz = not_zero k p.z c.is_zero.result c.is_zero.ensures c.if-is_zero.false in
    let seen = compared-by m (held k p.x) (held k p.y) (held k p.z) (held k q.x) (held k q.y) (held k c.square-z_square.result) (held k c.times-z_cube.result)
    (held k c.times-u.result) (held k c.times-s.result) (held k c.minus-h.result) (held k c.minus-r.result)
    c.square-z_square.ensures.held c.times-z_cube.ensures.held c.times-u.ensures.held c.times-s.ensures.held c.minus-h.ensures.held c.minus-r.ensures.held in
    let r = c.double.result in
    add-same_stands m (prime-certified k) (held k p.x) (held k p.y) (held k p.z) (held k q.x) (held k q.y) (held k c.square-z_square.result)
    (held k c.times-u.result) (held k c.times-s.result) (held k c.minus-h.result) (held k c.minus-r.result)
    (held k r.x) (held k r.y) (held k r.z) seen (held-lt k q.x) (held-lt k q.y) nz
    (same_of (c.is_zero-2.ensures.0 c.if-is_zero-2.true)) (same_of (c.is_zero-then-is_zero-2.ensures.0 c.if-is_zero-3.true)) c.double.ensures.point

pub returns-then-is_zero-2-clause-point : goal.returns-then-is_zero-2-clause-point
returns-then-is_zero-2-clause-point c =
    let k = c.args.curve in
    let m = prime k in
    let p = c.args.p.now in
    let q = c.args.q.now in
    let nz = not_zero k p.z c.is_zero.result c.is_zero.ensures c.if-is_zero.false in
    let seen = compared-by m (held k p.x) (held k p.y) (held k p.z) (held k q.x) (held k q.y) (held k c.square-z_square.result) (held k c.times-z_cube.result)
    (held k c.times-u.result) (held k c.times-s.result) (held k c.minus-h.result) (held k c.minus-r.result)
    c.square-z_square.ensures.held c.times-z_cube.ensures.held c.times-u.ensures.held c.times-s.ensures.held c.minus-h.ensures.held c.minus-r.ensures.held in
    let r = c.infinity.result in
    let rn = not_zero k c.minus-r.result c.is_zero-then-is_zero-2.result c.is_zero-then-is_zero-2.ensures c.if-is_zero-3.false in
    add-other_stands m (prime-certified k) (held k p.x) (held k p.y) (held k p.z) (held k q.x) (held k q.y) (held k c.square-z_square.result)
    (held k c.times-u.result) (held k c.times-s.result) (held k c.minus-h.result) (held k c.minus-r.result)
    (held k r.x) (held k r.y) (held k r.z) seen (held-lt k q.x) (held-lt k q.y) nz
    (same_of (c.is_zero-2.ensures.0 c.if-is_zero-2.true)) rn c.infinity.ensures.point

pub returns-clause-point : goal.returns-clause-point
returns-clause-point c =
    let k = c.args.curve in
    let m = prime k in
    let p = c.args.p.now in
    let q = c.args.q.now in
    let nz = not_zero k p.z c.is_zero.result c.is_zero.ensures c.if-is_zero.false in
    let seen = compared-by m (held k p.x) (held k p.y) (held k p.z) (held k q.x) (held k q.y) (held k c.square-z_square.result) (held k c.times-z_cube.result)
    (held k c.times-u.result) (held k c.times-s.result) (held k c.minus-h.result) (held k c.minus-r.result)
    c.square-z_square.ensures.held c.times-z_cube.ensures.held c.times-u.ensures.held c.times-s.ensures.held c.minus-h.ensures.held c.minus-r.ensures.held in
    let nh = not_zero k c.minus-h.result c.is_zero-2.result c.is_zero-2.ensures c.if-is_zero-2.false in
    add-stands m (prime-certified k) (held k p.x) (held k p.y) (held k p.z) (held k q.x) (held k q.y) (held k c.square-z_square.result)
    (held k c.times-u.result) (held k c.times-s.result) (held k c.minus-h.result) (held k c.minus-r.result)
    (held k c.square-h_square.result) (held k c.times-h_cube.result) (held k c.times-v.result) (held k c.minus-x.result) (held k c.minus-rest.result)
    (held k c.times-across.result) (held k c.minus-y.result) (held k c.times-z.result)
    (added-by m (held k p.x) (held k p.y) (held k p.z) (held k q.x) (held k q.y) (held k c.square-z_square.result)
    (held k c.times-u.result) (held k c.times-s.result) (held k c.minus-h.result) (held k c.minus-r.result)
    (held k c.square-h_square.result) (held k c.times-h_cube.result) (held k c.times-v.result) (held k c.add-twice.result) (held k c.add-both.result)
    (held k c.square-r_square.result) (held k c.minus-x.result) (held k c.minus-rest.result) (held k c.times-across.result) (held k c.times-slope.result)
    (held k c.minus-y.result) (held k c.times-z.result) seen
    c.square-h_square.ensures.held c.times-h_cube.ensures.held c.times-v.ensures.held c.add-twice.ensures.held c.add-both.ensures.held c.square-r_square.ensures.held
    c.minus-x.ensures.held c.minus-rest.ensures.held c.times-across.ensures.held c.times-slope.ensures.held c.minus-y.ensures.held c.times-z.ensures.held)
    (held-lt k q.x) (held-lt k q.y) nz nh
