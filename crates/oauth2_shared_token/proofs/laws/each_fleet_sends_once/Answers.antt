use Rattle.oauth2_shared_token.proofs.Fleets.{each_fleet_sends_once}
use Rattle.oauth2_shared_token.proofs.laws.each_fleet_sends_once.Goals as goal

pub returns : goal.returns
returns c = each_fleet_sends_once
