use Rattle.std.proofs.Common.{◌≡◌, refl, subst}
use Rattle.std.proofs.lemmas.Result.{IfOk-weaker}
use Rattle.oauth2_script.specs.Views.{shared_keeper_view}
use Rattle.oauth2_world.specs.Replay.{client_replies}
use Rattle.oauth2_shared_keeper_command.specs.SharedKeeper.{Standing, AreSteps, new_standing}
use Rattle.oauth2_shared_keeper_command.specs.private.Standing.{standing}
use Rattle.oauth2_shared_keeper_command.proofs.run.show_new_fleet.Goals as goal

pub returns : goal.returns
returns c =
    let replies = client_replies c.args.http_client.now in
    let made : standing c.in_ok-fleet.fleet replies ≡ new_standing (shared_keeper_view c.args.params) replies =
    rw (c.in_ok-fleet.ensures.0, c.in_ok-fleet.ensures.1, c.in_ok-fleet.ensures.2) refl in
    IfOk-weaker c.show_steps.result _ _
    (λ status shown. λ url there fed.
    (let all = rw c.as_slice.ensures.value at (shown url there fed) in (
      all.0,
      standing c.show_steps.new.fleet (client_replies c.show_steps.new.http_client),
      subst (λ (w : Standing). AreSteps c.args.client.now url 0 w c.args.params.steps.items all.0 (standing c.show_steps.new.fleet (client_replies c.show_steps.new.http_client))) made all.1,
      all.2,
    )))
    c.show_steps.ensures
