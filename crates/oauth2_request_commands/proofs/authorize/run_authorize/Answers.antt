use Rattle.std.proofs.Common.{◌≡◌, [], ◌∷◌, codes, refl}
use Rattle.std.proofs.lemmas.Result.{IfOk-weaker}
use Rattle.url.specs.Parts.{serialize}
use Rattle.oauth2_world.specs.Events.{sent_to}
use Rattle.oauth2_request_commands.specs.Out.{Output, success_output, after}
use Rattle.oauth2_world.specs.Quotation.{quotation}
use Rattle.oauth2_request_commands.proofs.Commands.{missing_told, command_told}
use Rattle.oauth2_request_commands.proofs.authorize.run_authorize.Goals as goal

pub returns-in_ok-made-in-Ok : goal.returns-in_ok-made-in-Ok
returns-in_ok-made-in-Ok c =
    let made = c.in_ok-made-in-Ok.made in
    let o : Output = after (sent_to (serialize made.0) ∷ []) (success_output (quotation made.1)) in
    IfOk-weaker c.show_url.result _ _
    (λ status told.
    command_told (codes "authorization") (λ shown. shown ≡ o) _ _ c.args.client.now.auth_url _ _ status
    c.in-Ok.ensures.there c.in-Ok.ensures.missing (o, refl, told.0, told.1)
    (λ u start shown is.
    let same = rw c.in_ok-state.ensures at start in
    let facts = c.in_ok-made-in-Ok.ensures c.args.client.now u same in
    (made.0, facts.0, rw facts.1 at is)))
    c.show_url.ensures

pub returns-in-Err : goal.returns-in-Err
returns-in-Err c =
    IfOk-weaker c.show_configuration_error.result _ _
    (λ status printed.
    missing_told _ _ c.args.client.now.auth_url _ _ status c.in-Err.error c.in-Err.ensures.there
    c.in-Err.ensures.missing printed)
    c.show_configuration_error.ensures
