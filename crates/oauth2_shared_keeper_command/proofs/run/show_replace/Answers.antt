use Rattle.std.proofs.Common.{string_bytes, subst}
use Rattle.std.proofs.lemmas.Result.{IfOk-weaker}
use Rattle.oauth2_request_commands.specs.Out.{Output, AddsOutput}
use Rattle.oauth2_shared_keeper_command.specs.Effect.{Effect, replace_effect}
use Rattle.oauth2_shared_keeper_command.specs.SharedKeeper.{IsEffect}
use Rattle.oauth2_shared_keeper_command.specs.private.Standing.{standing}
use Rattle.oauth2_shared_keeper_command.proofs.Steps.{effect_is}
use Rattle.oauth2_shared_keeper_command.proofs.run.show_replace.Goals as goal

pub returns-clause-shown : goal.returns-clause-shown
returns-clause-shown c =
    let effect = replace_effect c.args.fleet.now.tokens.items c.args.fleet.now.stored c.args.asked c.args.going.is_done c.args.going.is_told in
    let parts = rw c.as_slice.ensures.value at c.in_ok-effect.ensures.told in
    let is = effect_is effect (string_bytes c.in_ok-effect.effect.text) c.in_ok-effect.effect.told c.replace.new.stored
    parts.0 parts.1 parts.2 in
    IfOk-weaker c.show_effect.result _ _
    (λ status shown. λ replies.
    subst (λ (e : Effect). (o : Output) × IsEffect (standing c.args.fleet.now replies) c.args.going.keeper c.args.going.renewal e o (standing c.show_effect.new.fleet replies)
    × AddsOutput c.args.events.now c.show_effect.new.events status o) is (shown replies))
    c.show_effect.ensures.shown
