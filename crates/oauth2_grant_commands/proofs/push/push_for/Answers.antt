use Rattle.std.proofs.lemmas.Result.{IfOk-weaker}
use Rattle.oauth2_script.specs.Views.{client_view, push_view}
use Rattle.oauth2_world.specs.Replay.{client_replies}
use Rattle.oauth2_grant_commands.proofs.Pushes.{no_push_told}
use Rattle.oauth2_grant_commands.proofs.push.push_for.Goals as goal

pub returns-in-None : goal.returns-in-None
returns-in-None c =
    IfOk-weaker c.show_missing.result _ _
    (λ status told. λ fed.
    no_push_told (client_view c.args.client.now) (push_view c.args.params) (client_replies c.args.http_client.now) c.args.auth_url.now _ _ status
    c.in-None.is told)
    c.show_missing.ensures
