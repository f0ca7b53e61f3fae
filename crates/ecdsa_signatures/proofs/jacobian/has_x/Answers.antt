use Rattle.std.proofs.Common.{◌≡◌, ◌*◌, ◌%◌, ◌<◌, ◌∙◌, arith, rules}
use Rattle.ecdsa_signatures.specs.Curve.{prime, order}
use Rattle.ecdsa_signatures.specs.private.Coordinates.{value}
use Rattle.ecdsa_signatures.specs.private.Forms.{held}
use Rattle.ecdsa_signatures.proofs.Constants.{order-below_prime, prime-below_twice_order}
use Rattle.ecdsa_signatures.proofs.Forms.{prime-certified, held-below, not_zero}
use Rattle.ecdsa_signatures.proofs.LastComparison.{infinity-has_no_x, first-has_x, none-has_x, second-has_x}
use Rattle.modular_arithmetic.proofs.Same.{same_mod}
use Rattle.ecdsa_signatures.proofs.jacobian.has_x.Goals as goal

pub is_quotient-requires-clause-a : goal.is_quotient-requires-clause-a
is_quotient-requires-clause-a c =
    let k = c.args.curve in
    omega (arith, c.requires.r, order-below_prime k)

pub returns-then-is_zero : goal.returns-then-is_zero
returns-then-is_zero c =
    let k = c.args.curve in
    let p = c.args.p.now in
    λ a h. (
      λ t. absurd (let f : ⊥ = grind arith in f),
      λ w. absurd (infinity-has_no_x (prime k) (order k) (held k p.x) (held k p.y) (held k p.z) _ (held-below k p.z ∙ c.is_zero.ensures.0 c.if-is_zero.true) a h w),
    )

pub returns-then-is_quotient : goal.returns-then-is_quotient
returns-then-is_quotient c =
    let k = c.args.curve in
    let m = prime k in
    let p = c.args.p.now in
    let nz = not_zero k p.z c.is_zero.result c.is_zero.ensures c.if-is_zero.false in
    let rp : value k c.args.r.now < m = omega (arith, c.requires.r, order-below_prime k) in
    let e = c.is_quotient.ensures.0 c.if-is_quotient.true in
    λ a h. (
      λ _. first-has_x m (prime-certified k) (order k) (held k p.x) (held k p.y) (held k p.z) (held k c.square-z_square.result) (value k c.args.r.now)
          (held-below k p.x) c.requires.r rp nz (same_mod m _ _ c.square-z_square.ensures.held) e a h,
      λ _. search rules,
    )

pub returns-in-None : goal.returns-in-None
returns-in-None c =
    let k = c.args.curve in
    let m = prime k in
    let p = c.args.p.now in
    let r = value k c.args.r.now in
    let z = held k c.square-z_square.result in
    let nz = not_zero k p.z c.is_zero.result c.is_zero.ensures c.if-is_zero.false in
    let rp : r < m = omega (arith, c.requires.r, order-below_prime k) in
    let ne : (r * z) % m ≡ held k p.x → ⊥ = λ e. let t = c.is_quotient.ensures.1 e in let f = c.if-is_quotient.false in grind arith in
    λ a h. (
      λ t. absurd (let f : ⊥ = grind arith in f),
      λ w. absurd (none-has_x m (prime-certified k) (order k) (held k p.x) (held k p.y) (held k p.z) z r (held-below k p.x) rp (prime-below_twice_order k) nz
          (same_mod m _ _ c.square-z_square.ensures.held) ne c.in-None.ensures a h w),
    )

pub returns-in-Some : goal.returns-in-Some
returns-in-Some c =
    let k = c.args.curve in
    let m = prime k in
    let p = c.args.p.now in
    let r = value k c.args.r.now in
    let z = held k c.square-z_square.result in
    let nz = not_zero k p.z c.is_zero.result c.is_zero.ensures c.if-is_zero.false in
    let rp : r < m = omega (arith, c.requires.r, order-below_prime k) in
    let ne : (r * z) % m ≡ held k p.x → ⊥ = λ e. let t = c.is_quotient.ensures.1 e in let f = c.if-is_quotient.false in grind arith in
    let found = c.in-Some.ensures in
    let q = c.is_quotient-in-Some.ensures in
    λ a h.
    let second = second-has_x m (prime-certified k) (order k) (held k p.x) (held k p.y) (held k p.z) z r _ (held-below k p.x) c.requires.r rp
    (prime-below_twice_order k) nz (same_mod m _ _ c.square-z_square.ensures.held) ne found.0 found.1 a h in
    (λ t. second.0 (q.0 t), λ w. q.1 (second.1 w))
