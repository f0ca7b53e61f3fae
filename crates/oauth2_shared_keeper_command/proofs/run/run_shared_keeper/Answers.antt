use Rattle.std.proofs.Common.{rules, ◌≡◌, None, Some}
use Rattle.std.proofs.lemmas.Result.{IfOk-weaker}
use Rattle.oauth2_shared_keeper_command.proofs.Steps.{endpoint_told, no_endpoint_told}
use Rattle.oauth2_shared_keeper_command.proofs.run.run_shared_keeper.Goals as goal

pub returns-in-Some : goal.returns-in-Some
returns-in-Some c =
    let there : c.args.client.now.token_url ≡ Some c.in-Some.field-0.now = search rules in
    IfOk-weaker c.show_new_fleet.result _ _
    (λ status shown. λ fed.
    (let all = shown c.in-Some.field-0.now there fed in
    endpoint_told _ c.args.client.now.token_url c.in-Some.field-0.now there c.args.http_client.now.events c.show_new_fleet.new.http_client.events status
    (all.0, (all.1, all.2), all.3)))
    c.show_new_fleet.ensures

pub returns-in-None : goal.returns-in-None
returns-in-None c =
    let none : c.args.client.now.token_url ≡ None = search rules in
    IfOk-weaker c.show_missing.result _ _
    (λ status shown. λ fed.
    no_endpoint_told _ c.args.client.now.token_url none c.args.http_client.now.events c.show_missing.new.events status shown)
    c.show_missing.ensures
