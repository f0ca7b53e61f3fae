use Rattle.std.proofs.Common.{◌+◌}
use Rattle.oauth2_shared_keeper.proofs.History.{handed_over}
use Rattle.oauth2_shared_keeper.proofs.laws.each_given_is_handed_over.Goals as goal

pub returns : goal.returns
returns g c name limits calls token new result r has = handed_over name calls r.last r.asks token new has limits.loads (limits.repeats + 2) result r.end
