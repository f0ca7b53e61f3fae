use Rattle.std.proofs.Common.{◌≡◌, length, map, refl, rules, subst, ap, ◌∙◌}
use Rattle.std.specs.Prelude.{option_map}
use Rattle.oauth2_wire.specs.ServerView.{pair_texts}
use Rattle.std.specs.Vec.Iter.{into_iter_len}
use Rattle.std.proofs.lemmas.Result.{IfOk-weaker}
use Rattle.oauth2_form.specs.Params.{with_scopes}
use Rattle.oauth2_keeper.specs.Patience.{Patient}
use Rattle.oauth2_script.specs.Views.{keeper_view}
use Rattle.oauth2_world.specs.Replay.{client_replies}
use Rattle.oauth2_commands.specs.Keeper.{Standing, AreCalls, new_standing}
use Rattle.oauth2_commands.specs.private.Kept.{standing}
use Rattle.oauth2_commands.proofs.Kept.{moments_of}
use Rattle.oauth2_request_commands.proofs.Scopes.{every_item}
use Rattle.oauth2_commands.proofs.keeper.show_keeper_of_texts.Goals as goal

pub returns : goal.returns
returns c =
    let p = record (keeper_view c.args.params) { extra_params = map pair_texts c.args.extra_params.now; token_types = option_map (λ list. map (λ text. text.now) list.now) c.args.texts } in
    let client = c.args.http_client.now in
    let h = c.in_ok-add_scopes.ensures.ok in
    let count : into_iter_len h.0 ≡ length c.args.params.scopes.items = h.2.1 ∙ search rules in
    let scoped : c.add_scopes.new.self ≡ record c.new-keeper.result { scope = with_scopes c.new-keeper.result.scope c.args.params.scopes.items } =
    h.4 ∙ ap (λ added. record c.new-keeper.result { scope = with_scopes c.new-keeper.result.scope added }) (every_item h.0 c.args.params.scopes.items h.1 h.2.0 count h.3) in
    let made : standing c.waiting_keeper-keeper.result client ≡ new_standing c.args.client.now p (client_replies client) =
    ap (λ (keeper : Patient). standing keeper client) c.waiting_keeper-keeper.ensures
    ∙ rw (c.in_ok-add_extra.ensures, scoped, c.new-keeper.ensures) refl in
    let kept = standing c.show_calls.new.keeper c.show_calls.new.http_client in
    IfOk-weaker c.show_calls.result _ _
    (λ status shown. λ fed.
    (let all = shown fed in (
      all.0,
      (kept, subst (λ (w : Standing). AreCalls w (moments_of c.args.readings.now) all.0 kept) made all.1),
      all.2.0,
      all.2.1,
    )))
    c.show_calls.ensures
