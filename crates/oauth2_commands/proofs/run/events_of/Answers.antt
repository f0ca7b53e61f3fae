use Rattle.std.proofs.Common.{◌≡◌, map, ap, ◌∙◌}
use Rattle.oauth2_script.specs.Views.{stored_reply}
use Rattle.oauth2_world.specs.Clock.{new_clock}
use Rattle.oauth2_commands.proofs.Written.{Shows-from_Adds}
use Rattle.oauth2_commands.proofs.run.events_of.Goals as goal

pub returns : goal.returns
returns c =
    let clock : c.new-2.result ≡ new_clock (map (λ t. t.nanosecond) c.args.script.readings.items) = c.new-2.ensures in
    let adapted = ap (map stored_reply) c.from.ensures.0 ∙ c.in_ok-replies.ensures in
    Shows-from_Adds c.new.result c.run_by.new.world.http_client.events c.in_ok-status.status _ c.new.ensures
    (rw (clock, adapted) at c.in_ok-status.ensures c.if-http_client.false)
