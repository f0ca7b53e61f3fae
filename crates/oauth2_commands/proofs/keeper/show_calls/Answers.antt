use Rattle.oauth2_commands.specs.private.Kept.{standing}
use Rattle.oauth2_commands.proofs.Kept.{calls_more}
use Rattle.oauth2_commands.proofs.keeper.show_calls.Goals as goal

pub loop-now-preserved : goal.loop-now-preserved
loop-now-preserved c = λ fed.
    let call = c.in_ok-later.ensures fed in
    rw c.both-status.ensures
    (calls_more (standing c.args.keeper.now c.args.http_client.now)
    (standing c.loop-now.keeper c.loop-now.http_client)
    (standing c.show_call.new.keeper c.show_call.new.http_client)
    c.args.http_client.now.events c.loop-now.http_client.events c.show_call.new.http_client.events
    c.loop-now.status c.in_ok-later.later
    c.args.readings.now c.loop-now.now-index c.from_plain.result c.loop-now-test.true
    (rw c.from_plain.ensures c.now-item.is) (c.loop-now.invariant call.0) call.1)
