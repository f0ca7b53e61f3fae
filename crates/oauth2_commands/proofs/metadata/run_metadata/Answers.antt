use Rattle.std.proofs.Common.{refl}
use Rattle.std.proofs.lemmas.Result.{IfOk-weaker}
use Rattle.oauth2_script.specs.Views.{metadata_view}
use Rattle.oauth2_world.specs.Replay.{client_replies}
use Rattle.oauth2_commands.proofs.Discovery.{issuer_asked, issuer_refused}
use Rattle.oauth2_commands.proofs.metadata.run_metadata.Goals as goal

pub returns-in-Ok : goal.returns-in-Ok
returns-in-Ok c =
    IfOk-weaker c.ask.result _ _
    (λ status adds. λ fed.
    issuer_asked c.args.client.now (metadata_view c.args.params) (client_replies c.args.http_client.now) c.args.http_client.now.events
    c.ask.new.http_client.events status c.in-Ok.request c.with_expected_issuer-request.result c.in-Ok.ensures
    (rw (c.with_expected_issuer-request.ensures, c.set_reply_rule.ensures, c.reply_rule-rule.ensures) refl) (adds fed))
    c.ask.ensures

pub returns-in-Err : goal.returns-in-Err
returns-in-Err c =
    IfOk-weaker c.show_issuer_error.result _ _
    (λ status told. λ fed.
    issuer_refused c.args.client.now (metadata_view c.args.params) (client_replies c.args.http_client.now) c.args.http_client.now.events
    c.show_issuer_error.new.events status c.in-Err.error c.in-Err.ensures told.0 told.1)
    c.show_issuer_error.ensures
