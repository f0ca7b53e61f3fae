use Rattle.std.proofs.Common.{false, ◌-◌, refl, arith}
use Rattle.std.specs.Duration.{as_nanos}
use Rattle.oauth2_shared_keeper.proofs.MarkedTokens.{seen_at_last}
use Rattle.oauth2_shared_keeper.proofs.Waiting.{comes_late}
use Rattle.oauth2_shared_keeper.proofs.KeeperFacts.{some_round}
use Rattle.oauth2_shared_keeper.proofs.laws.each_unfinished_was_waited_for.Goals as goal

pub returns : goal.returns
returns g c is_good settings rounds renewal version token h =
    let k = seen_at_last _ renewal version token false is_good settings settings.rounds rounds _ refl h in
    let many = some_round is_good settings settings.rounds rounds renewal version token h in (
      k.0,
      k.1,
      k.2,
      k.3,
      k.4.0,
      k.4.1,
      k.4.2,
      comes_late is_good settings (as_nanos settings.wait) refl (settings.rounds - 1) settings.rounds rounds k.0 k.1 k.2 renewal version token
          (omega (arith, many)) h k.3,
    )
