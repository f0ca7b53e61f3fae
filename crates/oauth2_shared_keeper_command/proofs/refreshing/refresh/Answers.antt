use Rattle.std.proofs.Common.{◌≡◌}
use Rattle.oauth2.specs.NewRequest.{new_refresh_request}
use Rattle.oauth2_request_commands.specs.Exchange.{token_json}
use Rattle.oauth2_request_commands.proofs.Results.{token_written-data, error_told}
use Rattle.oauth2_shared_keeper_command.specs.Refreshing.{refreshing}
use Rattle.oauth2_shared_keeper_command.proofs.Sent.{refresh_told}
use Rattle.oauth2_shared_keeper_command.proofs.refreshing.refresh.Goals as goal

pub returns-in_ok-status-in-Ok : goal.returns-in_ok-status-in-Ok
unfolding token_json
returns-in_ok-status-in-Ok c = λ url there fed.
    let client = c.args.client.now in
    let sent = c.args.sent.now in
    let made : c.in-Ok.request ≡ new_refresh_request client url sent = rw there at c.in-Ok.ensures.there in
    let asks = rw made at c.request-end.ensures.once in
    rw c.in_ok-given-in-Ok.ensures
    (refresh_told client.reply_rule sent (refreshing client sent url) url c.args.http_client.now c.request-end.new.http_client
    c.show_end.new.events c.in_ok-status-in-Ok.status c.request-end.result asks fed
    (c.in_ok-status-in-Ok.ensures _ token_written-data error_told))
