use Rattle.std.proofs.Common.{◌≡◌, map, take, string_bytes}
use Rattle.oauth2_world.specs.Events.{event_of}
use Rattle.oauth2_results.specs.Lines.{lines_of}
use Rattle.oauth2_results.proofs.lines.lines_of.Given as goal

abbrev pub invariant-loop-event : goal.invariant-loop-event
invariant-loop-event l = string_bytes l.lines ≡ lines_of (map event_of (take l.event-index l.events))
