use Rattle.std.proofs.Common.{◌≡◌, ◌+◌, ◌≤◌, ◌∷◌, length, sym, refl, arith, append-nil}
use Rattle.oauth2_world.specs.Replay.{client_replies}
use Rattle.oauth2_request_commands.specs.Out.{nothing}
use Rattle.oauth2_shared_keeper_command.specs.private.Standing.{standing}
use Rattle.oauth2_shared_keeper_command.proofs.Steps.{one_more, no_more}
use Rattle.oauth2_shared_keeper_command.proofs.run.show_steps.Goals as goal

pub loop-step-init : goal.loop-step-init
loop-step-init c =
    (omega (arith, c.requires), omega (arith, c.requires), λ url there fed. (nothing, (sym (append-nil c.args.http_client.now.events), refl), λ rest kept steps. steps))

pub loop-step-preserved : goal.loop-step-preserved
loop-step-preserved c =
    let split : c.loop-step.rest.now ≡ c.in-Some.step.now ∷ c.in-Some.later.now = c.in-Some.ensures.cases.0 in
    let left : length c.in-Some.later.now + 1 ≡ length c.loop-step.rest.now = c.in-Some.ensures.cases.1 in
    let older : c.loop-step.fleet.stored.version ≤ c.loop-step.place = c.loop-step.invariant.0 in
    let all : c.loop-step.place + length c.loop-step.rest.now ≡ length c.args.steps.now = c.loop-step.invariant.1 in
    let newer : c.show_step.new.fleet.stored.version ≤ c.loop-step.fleet.stored.version + 1 = c.in_ok-next.ensures.version in (
      omega (arith, older, newer),
      omega (arith, left, all),
      λ url there fed.
          (let step = c.in_ok-next.ensures.shown url there fed in
          let so_far = c.loop-step.invariant.2 url there step.0 in
          rw c.both-status.ensures
          (one_more c.args.client.now url (standing c.args.fleet.now (client_replies c.args.http_client.now)) (standing c.loop-step.fleet (client_replies c.loop-step.http_client))
          (standing c.show_step.new.fleet (client_replies c.show_step.new.http_client)) c.args.steps.now c.in-Some.step.now c.in-Some.later.now c.loop-step.place
          c.args.http_client.now.events c.loop-step.http_client.events c.show_step.new.http_client.events
          c.loop-step.status c.in_ok-next.next (rw split at so_far) step.1)),
    )

pub returns : goal.returns
returns c = λ url there fed.
    let none : length c.loop-step.rest.now ≡ 0 = c.in_default.ensures.cases in
    no_more c.args.client.now url (standing c.args.fleet.now (client_replies c.args.http_client.now)) (standing c.loop-step.fleet (client_replies c.loop-step.http_client))
    c.args.steps.now c.loop-step.rest.now none c.loop-step.place
    c.args.http_client.now.events c.loop-step.http_client.events c.loop-step.status (c.loop-step.invariant.2 url there fed)
