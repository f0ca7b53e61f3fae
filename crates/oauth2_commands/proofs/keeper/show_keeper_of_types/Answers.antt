use Rattle.std.proofs.Common.{◌≡◌, ℕ, List, Option, false, map, rules, subst}
use Rattle.std.specs.Prelude.{IfOk}
use Rattle.oauth2_request_commands.specs.Out.{Adds}
use Rattle.oauth2_script.specs.Views.{keeper_view}
use Rattle.oauth2_wire.specs.ServerView.{pair_texts}
use Rattle.oauth2_world.specs.Replay.{client_replies}
use Rattle.oauth2_commands.specs.private.Kept.{AreKept}
use Rattle.oauth2_commands.proofs.Kept.{moments_of}
use Rattle.oauth2_commands.proofs.keeper.show_keeper_of_types.Goals as goal

pub returns : goal.returns
returns c =
    let last = c.show_keeper_of_texts-2.new.http_client in
    subst
    (λ (types : Option (List (List ℕ))). IfOk c.show_keeper_of_texts-2.result
    (λ status. last.is_starved ≡ false
    → Adds c.args.http_client.now.events last.events status
    (AreKept c.args.client.now
    (record (keeper_view c.args.params) { extra_params = map pair_texts c.args.extra_params.now; token_types = types })
    (moments_of c.args.readings.now) (client_replies c.args.http_client.now))))
    (search rules) c.show_keeper_of_texts-2.ensures
