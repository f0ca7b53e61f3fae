use Rattle.std.proofs.Common.{◌-◌, refl, arith}
use Rattle.std.specs.Duration.{as_nanos}
use Rattle.oauth2_shared_keeper.proofs.KeeperFacts.{sleeps_little}
use Rattle.oauth2_shared_keeper.proofs.laws.each_call_sleeps_little.Goals as goal

pub returns : goal.returns
returns g c is_good settings rounds result h =
    sleeps_little is_good settings (as_nanos settings.wait) refl (settings.rounds - 1) settings.rounds rounds result (omega arith) h
