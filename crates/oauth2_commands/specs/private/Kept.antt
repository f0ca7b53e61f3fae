-- What calls of the keeper that the command holds add to the events of a run.
use Rattle.std.specs.Prelude.{ℤ, List}
use Rattle.oauth2.specs.Settings.{Settings}
use Rattle.oauth2_keeper.specs.Patience.{Patient}
use Rattle.oauth2_commands.specs.Keeper.{Standing, IsCall, AreCalls, new_standing}
use Rattle.oauth2_request_commands.specs.Out.{Output, AddsOutput}
use Rattle.oauth2_request_commands.specs.declared.status.RunStatus.{RunStatus}
use Rattle.oauth2_script.specs.KeeperParams.{KeeperParams}
use Rattle.oauth2_script.specs.Replies.{Reply}
use Rattle.oauth2_world.specs.Events.{Event}
use Rattle.oauth2_world.specs.Replay.{client_replies}
use Rattle.oauth2_world.specs.declared.replay.ScriptedClient.{ScriptedClient}

-- the state of a command with this keeper and this client
abbrev pub standing : Patient → ScriptedClient → Standing
standing keeper client = record { keeper = keeper; replies = client_replies client }

module _ (before kept : Standing) (old new : List Event) (s : RunStatus) where
  -- a call at this moment adds its output
  abbrev pub CallAdds : ℤ → Type 0
  CallAdds now = (o : Output) × IsCall before now o kept × AddsOutput old new s o

  -- calls at these moments add theirs
  abbrev pub CallsAdd : List ℤ → Type 0
  CallsAdd moments = (o : Output) × AreCalls before moments o kept × AddsOutput old new s o

-- the output of the calls of a new keeper at these moments
abbrev pub AreKept : Settings → KeeperParams → List ℤ → List Reply → Output → Type 0
AreKept client p moments replies o =
    (kept : Standing) × AreCalls (new_standing client p replies) moments o kept
