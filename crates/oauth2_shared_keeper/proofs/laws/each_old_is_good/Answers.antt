use Rattle.std.proofs.Common.{true, refl}
use Rattle.oauth2_shared_keeper.proofs.MarkedTokens.{seen_at_last}
use Rattle.oauth2_shared_keeper.proofs.laws.each_old_is_good.Goals as goal

pub returns : goal.returns
returns g c is_good settings rounds renewal version token h =
    let k = seen_at_last _ renewal version token true is_good settings settings.rounds rounds _ refl h in
    (k.0, k.1, k.2, k.3, k.4.0, k.4.1, k.4.2)
