use Rattle.std.proofs.Common.{sym, subst}
use Rattle.ecdsa_signatures.specs.Curve.{prime}
use Rattle.ecdsa_signatures.specs.private.Forms.{StandsFor}
use Rattle.ecdsa_signatures.proofs.Sums.{sum-second_infinity}
use Rattle.ecdsa_signatures.proofs.jacobian.add_option.Goals as goal

pub returns-in-None-clause-point : goal.returns-in-None-clause-point
returns-in-None-clause-point c =
    let k = c.args.curve in
    rw c.in-None.is (λ a h. subst (StandsFor k c.args.p.now) (sym (sum-second_infinity (prime k) a)) h)
