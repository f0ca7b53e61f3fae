use Rattle.std.proofs.Common.{◌≡◌, ◌++◌, ◌∷◌, [], Some, ap, ◌∙◌}
use Rattle.oauth2_script.specs.Replies.{HttpReply}
use Rattle.oauth2_script.specs.Views.{http_reply_view}
use Rattle.oauth2_wire.specs.Request.{view_of}
use Rattle.oauth2_world.specs.Events.{exchanged}
use Rattle.oauth2_world.specs.Replies.{view_of_http_reply}
use Rattle.oauth2_world.proofs.replay.show_exchange.Goals as goal

pub returns : goal.returns
returns c =
    let same : http_reply_view c.in_ok-copy.copy ≡ http_reply_view c.args.reply = c.in_ok-copy.ensures in
    let shown : c.push.new.self ≡ c.args.events.now ++ exchanged (view_of c.args.request) (Some (view_of_http_reply (http_reply_view c.in_ok-copy.copy))) ∷ [] = c.in_ok-push.ensures in
    (c.in_ok-response.ensures, shown ∙ ap (λ (r : HttpReply). c.args.events.now ++ exchanged (view_of c.args.request) (Some (view_of_http_reply r)) ∷ []) same)
