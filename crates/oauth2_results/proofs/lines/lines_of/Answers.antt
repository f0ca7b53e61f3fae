use Rattle.std.proofs.Common.{◌∙◌, map, ap, arith}
use Rattle.std.proofs.lemmas.List.{take_all}
use Rattle.oauth2_world.specs.Events.{event_of}
use Rattle.oauth2_results.specs.Lines.{lines_of}
use Rattle.oauth2_results.proofs.lines.lines_of.Goals as goal

pub returns : goal.returns
returns c = c.loop-event.invariant ∙ ap (λ es. lines_of (map event_of es)) (take_all c.loop-event.event-index c.args.events.now (omega arith))
