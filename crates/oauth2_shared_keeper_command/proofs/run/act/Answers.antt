use Rattle.std.proofs.lemmas.Result.{IfOk-weaker}
use Rattle.oauth2_world.specs.Replay.{client_replies}
use Rattle.oauth2_shared_keeper_command.proofs.Steps.{load_is, replace_is, lost_is, nothing_is}
use Rattle.oauth2_shared_keeper_command.proofs.run.act.Goals as goal

pub returns-in-Load-clause-shown : goal.returns-in-Load-clause-shown
returns-in-Load-clause-shown c =
    IfOk-weaker c.show_load.result _ _
    (λ status shown. λ url there fed.
    (let all = shown (client_replies c.args.http_client.now) in
    (fed, (all.0, load_is c.args.client.now url _ _ _ c.args.going.renewal all.0 _ _ _ c.in-Load.is all.1, all.2))))
    c.show_load.ensures.shown

pub returns-in-Replace-clause-shown : goal.returns-in-Replace-clause-shown
returns-in-Replace-clause-shown c =
    IfOk-weaker c.show_replace.result _ _
    (λ status shown. λ url there fed.
    (let all = shown (client_replies c.args.http_client.now) in
    (fed, (all.0, replace_is c.args.client.now url _ _ _ c.args.going.renewal all.0 _ _ _ _ c.in-Replace.is all.1, all.2))))
    c.show_replace.ensures.shown

pub returns-else-going-clause-shown : goal.returns-else-going-clause-shown
returns-else-going-clause-shown c =
    IfOk-weaker c.show_lost.result _ _
    (λ status shown. λ url there fed.
    (let all = shown (client_replies c.args.http_client.now) in
    (fed, (all.0, lost_is c.args.client.now url _ _ _ c.args.going.renewal all.0 _ _ _ _ c.in-Refresh.is c.if-going.false all.1, all.2))))
    c.show_lost.ensures.shown

pub returns-in-Nothing-clause-shown : goal.returns-in-Nothing-clause-shown
returns-in-Nothing-clause-shown c =
    IfOk-weaker c.tell.result _ _
    (λ status shown. λ url there fed.
    (let all = shown (client_replies c.args.http_client.now) in
    (fed, (all.0, nothing_is c.args.client.now url _ _ _ c.args.going.renewal all.0 _ _ _ c.in-Nothing.is all.1, all.2))))
    c.tell.ensures.shown
