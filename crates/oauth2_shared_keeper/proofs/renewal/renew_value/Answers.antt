use Rattle.std.proofs.Common.{◌+◌, [], refl, arith}
use Rattle.oauth2_shared_keeper.proofs.Parts.{no_next}
use Rattle.oauth2_shared_keeper.proofs.renewal.renew_value.Goals as goal

pub returns-then-version-clause-renewal : goal.returns-then-version-clause-renewal
returns-then-version-clause-renewal g c =
    ([], refl, refl, no_next c.args.renewal c.args.value c.in-AtRest.token c.args.limits.loads (c.args.limits.repeats + 2) c.in-AtRest.is (omega arith))
