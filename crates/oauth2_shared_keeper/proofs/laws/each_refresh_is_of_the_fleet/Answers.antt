use Rattle.oauth2_shared_keeper.proofs.FleetFacts.{each_refresh_is_of_the_fleet}
use Rattle.oauth2_shared_keeper.proofs.laws.each_refresh_is_of_the_fleet.Goals as goal

pub returns : goal.returns
returns g c = each_refresh_is_of_the_fleet _
