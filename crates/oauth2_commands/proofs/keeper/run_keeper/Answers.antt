use Rattle.std.proofs.Common.{rules, ◌≡◌, None, codes}
use Rattle.std.proofs.lemmas.Result.{IfOk-weaker}
use Rattle.oauth2_script.specs.Views.{keeper_view}
use Rattle.oauth2_world.specs.Replay.{client_replies}
use Rattle.oauth2_commands.specs.private.Kept.{AreKept}
use Rattle.oauth2_commands.proofs.Kept.{keeper_told, moments_of, unset_told}
use Rattle.oauth2_commands.proofs.keeper.run_keeper.Goals as goal

pub returns-in_ok-client-in-Some : goal.returns-in_ok-client-in-Some
returns-in_ok-client-in-Some c =
    let replies = client_replies c.args.http_client.now in
    IfOk-weaker c.show_new_keeper.result _ _
    (λ status adds. λ fed.
    keeper_told c.args.client.now c.in_ok-client-in-Some.client c.in-Some.token_url.now (search rules)
    c.in_ok-client-in-Some.ensures
    (λ client o. AreKept client (keeper_view c.args.params) (moments_of c.args.readings.now) replies o)
    c.args.http_client.now.events c.show_new_keeper.new.http_client.events status (adds fed))
    c.show_new_keeper.ensures

pub returns-in-None : goal.returns-in-None
returns-in-None c =
    let none : c.args.client.now.token_url ≡ None = search rules in
    IfOk-weaker c.show_missing.result _ _
    (λ status printed. λ fed.
    unset_told (codes "token") _ c.args.client.now.token_url none c.args.http_client.now.events
    c.show_missing.new.events status printed)
    c.show_missing.ensures
