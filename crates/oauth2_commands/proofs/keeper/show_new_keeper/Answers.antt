use Rattle.std.proofs.Common.{◌≡◌, false, map, rules, subst}
use Rattle.std.specs.Prelude.{IfOk, option_map, string_bytes}
use Rattle.oauth2_request_commands.specs.Out.{Adds}
use Rattle.oauth2_script.specs.KeeperParams.{KeeperParams}
use Rattle.oauth2_script.specs.Views.{keeper_view}
use Rattle.oauth2_wire.specs.ServerView.{pair_texts}
use Rattle.oauth2_world.specs.Replay.{client_replies}
use Rattle.oauth2_commands.specs.private.Kept.{AreKept}
use Rattle.oauth2_commands.proofs.Kept.{moments_of}
use Rattle.oauth2_commands.proofs.keeper.show_new_keeper.Goals as goal

pub returns : goal.returns
returns c =
    let last = c.show_keeper_of_types.new.http_client in
    subst
    (λ (p : KeeperParams). IfOk c.show_keeper_of_types.result
    (λ status. last.is_starved ≡ false
    → Adds c.args.http_client.now.events last.events status
    (AreKept c.args.client.now p (moments_of c.args.readings.now) (client_replies c.args.http_client.now))))
    {x = record (keeper_view c.args.params) {
      extra_params = map pair_texts c.as_slice.result.now;
      token_types = option_map (λ list. map string_bytes list.items) c.take-token_types.result;
    }}
    {y = keeper_view c.args.params} (search rules) c.show_keeper_of_types.ensures
