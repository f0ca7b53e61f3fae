use Rattle.std.proofs.Common.{◌≡◌, map, take, string_bytes}
use Rattle.oauth2_world.specs.Events.{event_of}
use Rattle.oauth2_results.specs.Result.{event_json}
use Rattle.oauth2_results.proofs.event_json.result_text.Given as goal

abbrev pub invariant-loop-event : goal.invariant-loop-event
invariant-loop-event l = map string_bytes l.items.items ≡ map event_json (map event_of (take l.event-index l.events))
