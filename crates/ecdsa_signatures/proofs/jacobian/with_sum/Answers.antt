use Rattle.ecdsa_signatures.specs.Curve.{Affine}
use Rattle.ecdsa_signatures.proofs.jacobian.with_sum.Goals as goal

pub returns-clause-all : goal.returns-clause-all
returns-clause-all c = record {
  first = c.in_form-first.ensures.reduced;
  second = c.in_form-second.ensures.reduced;
  both = c.affine-both.ensures.reduced;
  sum_is = c.affine-both.ensures.value _ (c.add_affine-total.ensures.point _ c.with_affine-start.ensures.point);
}

pub returns-clause-first : goal.returns-clause-first
returns-clause-first c = λ j. Affine (c.in_form-first.ensures.x j) (c.in_form-first.ensures.y j)

pub returns-clause-second : goal.returns-clause-second
returns-clause-second c = λ j. Affine (c.in_form-second.ensures.x j) (c.in_form-second.ensures.y j)
