-- What the code holds of a fleet, as the definitions have it.
use Rattle.std.specs.Prelude.{List}
use Rattle.oauth2_script.specs.Replies.{Reply}
use Rattle.oauth2_shared_keeper_command.specs.SharedKeeper.{Standing}
use Rattle.oauth2_shared_keeper_command.specs.declared.fleet.Fleet.{Fleet}

-- a fleet, and the replies that are left
abbrev pub standing : Fleet → List Reply → Standing
standing fleet replies = record {
  stored = fleet.stored;
  tokens = fleet.tokens.items;
  renewals = fleet.renewals.items;
  replies = replies;
}
