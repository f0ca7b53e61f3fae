use Rattle.std.proofs.Common.{◌≡◌, [], ◌∷◌, ◌++◌, sym, ap, ◌∙◌}
use Rattle.std.proofs.Common.{Global, Vec, List, ℕ}
use Rattle.oauth2_world.specs.Events.{stepped}
use Rattle.oauth2_world.specs.Replay.{client_replies}
use Rattle.oauth2_shared_keeper_command.specs.SharedKeeper.{refresh_text}
use Rattle.oauth2_shared_keeper_command.specs.private.Standing.{standing}
use Rattle.oauth2_shared_keeper_command.proofs.Steps.{sending_told}
use Rattle.oauth2_shared_keeper_command.proofs.sending.show_refresh.Goals as goal

pub returns-clause-shown : goal.returns-clause-shown
returns-clause-shown c = λ url there fed.
    let s = standing c.args.fleet.now (client_replies c.args.http_client.now) in
    let fleet = c.args.fleet.now in
    let old = c.args.http_client.now.events in
    let sent = rw (c.in_ok-refresh_token.ensures, c.in_ok-lose_reply_unless.ensures.replies) at (c.in_ok-status.ensures url there fed) in
    let added : c.add_step.new.events ≡ old ++ stepped c.args.going.keeper (refresh_text fleet.tokens.items c.args.token) ∷ [] =
    rw (c.in_ok-text.ensures, c.as_slice.ensures.value) at c.in_ok-add_step.ensures in
    let mid : c.lose_reply_unless.new.http_client.events ≡ old ++ stepped c.args.going.keeper (refresh_text fleet.tokens.items c.args.token) ∷ [] =
    c.in_ok-lose_reply_unless.ensures.events ∙ added in
    let told = c.in_ok-told.ensures.told in (
      sym c.in_ok-lose_reply_unless.ensures.is_fed ∙ sent.0,
      sending_told c.args.client.now url s c.args.going.keeper c.args.going.renewal c.args.token c.args.going.is_told
          sent.1.0 c.in_ok-status.given (client_replies c.refresh.new.http_client) c.in_ok-told.told
          c.take_turn.new.fleet.stored c.take_turn.new.fleet.tokens.items c.take_turn.new.fleet.renewals.items
          sent.1.1 told.0 (c.in_ok-take_turn.ensures.stored ∙ told.2)
          (ap (λ (v : Vec (List ℕ) Global). v.items) c.in_ok-take_turn.ensures.tokens ∙ told.1) (rw told.3 at c.in_ok-take_turn.ensures.renewals)
          old c.lose_reply_unless.new.http_client.events c.refresh.new.http_client.events c.take_turn.new.events
          c.in_ok-status.status mid sent.1.2 (rw told.1 at c.in_ok-take_turn.ensures.events),
    )
