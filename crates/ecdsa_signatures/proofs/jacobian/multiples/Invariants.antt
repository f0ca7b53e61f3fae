use Rattle.std.proofs.Common.{◌-◌, ◌*◌, ◌/◌, ◌^◌, ◌≤◌, Some}
use Rattle.ecdsa_signatures.specs.Curve.{prime, coordinate_size, multiples_of}
use Rattle.ecdsa_signatures.specs.private.Coordinates.{value, point_of}
use Rattle.ecdsa_signatures.specs.private.Forms.{AreBelow, StandsFor}
use Rattle.ecdsa_signatures.proofs.jacobian.multiples.Given as goal

abbrev pub invariant-loop-i : goal.invariant-loop-i
invariant-loop-i l = record {
  bits : l.i ≤ 8 * coordinate_size l.curve;
  below : AreBelow l.curve l.total;
  point : StandsFor l.curve l.total (multiples_of (prime l.curve) (8 * coordinate_size l.curve - l.i) (value l.curve l.u / 2 ^ l.i) (value l.curve l.v / 2 ^ l.i)
      (point_of l.curve (Some l.p)) (point_of l.curve (Some l.q)));
}

abbrev pub decreases-loop-i : goal.decreases-loop-i
decreases-loop-i l = l.i
