use Rattle.std.proofs.Common.{refl}
use Rattle.std.proofs.lemmas.Result.{IfOk-weaker}
use Rattle.oauth2_world.specs.Replay.{client_replies}
use Rattle.oauth2_shared_keeper_command.proofs.Steps.{stopped_is, killed_is}
use Rattle.oauth2_shared_keeper_command.proofs.run.show_step.Goals as goal

pub returns-in-Stopped-clause-shown : goal.returns-in-Stopped-clause-shown
returns-in-Stopped-clause-shown c =
    IfOk-weaker c.tell.result _ _
    (λ status shown. λ url there fed.
    (let all = shown (client_replies c.args.http_client.now) in
    (fed, (all.0, stopped_is c.args.client.now url c.args.place _ _ c.args.step all.0 c.going_on.result c.in-Stopped.is (c.going_on.ensures _ refl) all.1, all.2))))
    c.tell.ensures.shown

pub returns-in-Killed-clause-shown : goal.returns-in-Killed-clause-shown
returns-in-Killed-clause-shown c =
    IfOk-weaker c.kill.result _ _
    (λ status shown. λ url there fed.
    (let all = shown (client_replies c.args.http_client.now) in
    (fed, (_, killed_is c.args.client.now url c.args.place _ _ c.args.step _ c.in-Killed.is refl all.0, all.1))))
    c.kill.ensures.shown
