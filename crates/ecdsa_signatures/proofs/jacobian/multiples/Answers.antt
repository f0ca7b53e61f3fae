use Rattle.std.proofs.Common.{◌≡◌, ℕ, ◌-◌, ◌*◌, ◌/◌, ◌^◌, Some, sym, ap, ◌∙◌, subst, arith}
use Rattle.ecdsa_signatures.specs.Curve.{prime, coordinate_size, sum, odd_part, multiples_of}
use Rattle.ecdsa_signatures.specs.private.Coordinates.{value, point_of, IsReduced}
use Rattle.ecdsa_signatures.specs.private.Forms.{StandsFor, form_point}
use Rattle.ecdsa_signatures.proofs.Sums.{multiples-start, multiples-turn, chosen-is, chosen-reduced}
use Rattle.ecdsa_signatures.proofs.jacobian.multiples.Goals as goal

pub loop-i-init : goal.loop-i-init
loop-i-init c =
    let curve = c.args.curve in
    let bits = 8 * coordinate_size curve in
    let p = point_of curve (Some c.args.p.now) in
    let q = point_of curve (Some c.args.q.now) in
    let first = 8 * c.coordinate_size-i.result in
    let u = value curve c.args.u.now / 2 ^ first in
    let v = value curve c.args.v.now / 2 ^ first in
    let whole : first ≡ bits = omega (arith, c.coordinate_size-i.ensures.value) in
    let none : bits - first ≡ 0 = omega (arith, whole) in
    record {
      bits = omega (arith, whole);
      below = c.infinity-total.ensures.below;
      point = subst (StandsFor curve c.infinity-total.result)
          (sym (ap (λ t. multiples_of (prime curve) t u v p q) none ∙ multiples-start (prime curve) u v p q)) c.infinity-total.ensures.point;
    }

pub loop-i-preserved : goal.loop-i-preserved
loop-i-preserved c =
    let curve = c.args.curve in
    let m = prime curve in
    let bits = 8 * coordinate_size curve in
    let u = value curve c.args.u.now in
    let v = value curve c.args.v.now in
    let p = point_of curve (Some c.args.p.now) in
    let q = point_of curve (Some c.args.q.now) in
    let above = c.loop-i.i in
    let i = above - 1 in
    let half = multiples_of m (bits - above) (u / 2 ^ above) (v / 2 ^ above) p q in
    let doubled = c.double-doubled.ensures.point half c.loop-i.invariant.point in
    let points = c.with_sum-points.result in
    let b = c.is_bit_set.result in
    let d = c.is_bit_set-in-loop-i.result in
    let len = c.limbs-len.ensures.value in
    let is = chosen-is curve points c.with_sum-points.ensures.all b d (u / 2 ^ i) (v / 2 ^ i) (rw len at c.is_bit_set.ensures) (rw len at c.is_bit_set-in-loop-i.ensures) in
    let added = c.add_option-total.ensures.point (sum m half half) doubled in
    let first = c.with_sum-points.ensures.first in
    let second = c.with_sum-points.ensures.second in
    record {
      bits = omega arith;
      below = c.add_option-total.ensures.below;
      point = subst (StandsFor curve c.add_option-total.result)
          (ap (λ t. sum m (sum m half half) (form_point curve t)) c.chosen-point.ensures ∙ ap (sum m (sum m half half)) is
          ∙ (λ j. sum m (sum m half half) (odd_part m (u / 2 ^ i) (v / 2 ^ i) (first j) (second j)))
          ∙ sym (multiples-turn m (bits - above) (bits - i) u v i above p q (omega arith) (omega arith))) added;
    }

pub add_option-total-requires-clause-q : goal.add_option-total-requires-clause-q
add_option-total-requires-clause-q c =
    let curve = c.args.curve in
    subst (IsReduced curve) (sym c.chosen-point.ensures) (chosen-reduced curve c.with_sum-points.result c.with_sum-points.ensures.all c.is_bit_set.result c.is_bit_set-in-loop-i.result)

pub returns-clause-point : goal.returns-clause-point
returns-clause-point c =
    let curve = c.args.curve in
    let m = prime curve in
    let bits = 8 * coordinate_size curve in
    let u = value curve c.args.u.now in
    let v = value curve c.args.v.now in
    let p = point_of curve (Some c.args.p.now) in
    let q = point_of curve (Some c.args.q.now) in
    let e : c.loop-i.i ≡ 0 = omega arith in
    let whole : (t : ℕ) → t / 2 ^ 0 ≡ t = λ t. omega arith in
    let all : bits - 0 ≡ bits = omega arith in
    subst (StandsFor curve c.loop-i.total)
    ((λ j. multiples_of m (bits - e j) (u / 2 ^ e j) (v / 2 ^ e j) p q) ∙ (λ j. multiples_of m (all j) (whole u j) (whole v j) p q)) c.loop-i.invariant.point
