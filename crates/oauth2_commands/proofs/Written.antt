-- The events of a run.
use Rattle.std.proofs.Common.{◌≡◌, List, []}
use Rattle.oauth2_commands.specs.Run.{Shows}
use Rattle.oauth2_request_commands.specs.Out.{Output, Adds}
use Rattle.oauth2_request_commands.specs.declared.status.RunStatus.{RunStatus}
use Rattle.oauth2_world.specs.Events.{Event}

-- events that are added to none are all the events
pub Shows-from_Adds : (old new : List Event) (s : RunStatus) (IsOut : Output → Type 0) → old ≡ [] → Adds old new s IsOut → Shows new s IsOut
Shows-from_Adds old new s IsOut empty (o, out, grown, ended) = (o, out, rw empty at grown, ended)
