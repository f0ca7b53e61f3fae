use Rattle.std.proofs.Common.{◌≡◌, ◌*◌, ◌<◌, ap, subst, arith, mul-le-mul_right}
use Rattle.modular_arithmetic.specs.Limbs.{limb_weight}
use Rattle.ecdsa_signatures.specs.private.Coordinates.{value, limb_count}
use Rattle.ecdsa_signatures.proofs.Constants.{prime-below_weight}
use Rattle.ecdsa_signatures.proofs.scalar.with_order.Goals as goal

pub returns-then-carry-gt0 : goal.returns-then-carry-gt0
returns-then-carry-gt0 c =
    let k = c.args.curve in
    let e = rw c.limbs-len.ensures.value at c.add_mul-carry.ensures.value in
    omega (arith, e, c.order.ensures.number, prime-below_weight k, mul-le-mul_right (limb_weight (limb_count k)) c.if-carry-gt0.true)

pub returns-then-is_less : goal.returns-then-is_less
returns-then-is_less c =
    let k = c.args.curve in
    let len = c.limbs-len.ensures.value in
    let e = rw len at c.add_mul-carry.ensures.value in
    let above = value k c.add_mul-carry.new.limbs in
    let z : c.add_mul-carry.result ≡ 0 = omega (arith, c.if-carry-gt0.false) in
    let none = ap (λ t. t * limb_weight (limb_count k)) z in
    let less = rw len at c.is_less.ensures in
    (omega (arith, e, none, c.order.ensures.number), subst (λ t. above < t) c.prime.ensures.number (less.0 c.if-is_less.true))

pub returns : goal.returns
returns c =
    let k = c.args.curve in
    let len = c.limbs-len.ensures.value in
    let e = rw len at c.add_mul-carry.ensures.value in
    let above = value k c.add_mul-carry.new.limbs in
    let z : c.add_mul-carry.result ≡ 0 = omega (arith, c.if-carry-gt0.false) in
    let none = ap (λ t. t * limb_weight (limb_count k)) z in
    let less = rw len at c.is_less.ensures in
    let other : above < value k c.prime.result.now.number → ⊥ = λ h. let t = less.1 h in let f = c.if-is_less.false in grind arith in
    omega (arith, e, none, other, c.order.ensures.number, c.prime.ensures.number)
