use Rattle.std.proofs.Common.{map}
use Rattle.std.proofs.lemmas.Result.{IfOk-weaker}
use Rattle.oauth2_codes.specs.ErrorResponse.{parts_of}
use Rattle.oauth2_grants.specs.ExchangeErrors.{exchange_error_code, exchange_error_code_text}
use Rattle.oauth2_grants.specs.Extension.{extension_configuration}
use Rattle.oauth2_request_commands.specs.Exchange.{error_members}
use Rattle.oauth2_request_commands.proofs.Exchanges.{exchange_told}
use Rattle.oauth2_grant_commands.specs.ExchangeToken.{IsExchangeAsked, exchange_answer, exchange_json}
use Rattle.oauth2_grant_commands.proofs.ExchangeAnswers.{exchange_error_told, exchange_free, exchange_meaning, exchange_written-data}
use Rattle.oauth2_wire.specs.ServerView.{pair_texts}
use Rattle.oauth2_world.specs.Replay.{client_replies}
use Rattle.oauth2_grant_commands.proofs.Requests.{asked_told, refused_told}
use Rattle.oauth2_grant_commands.proofs.exchange_token.show_exchange.Goals as goal

pub show_end-requires : goal.show_end-requires
show_end-requires c = exchange_free

pub returns-in-Ok : goal.returns-in-Ok
unfolding exchange_json
returns-in-Ok c =
    let r = c.in-Ok.asked in
    IfOk-weaker c.show_end.result _ _
    (λ status shows. λ fed.
    asked_told (IsExchangeAsked (client_replies c.args.http_client.now)) c.args.request _ _ _ status r c.in-Ok.ensures.ok
    (exchange_told exchange_meaning (parts_of exchange_error_code) exchange_json (error_members exchange_error_code_text)
    (exchange_answer r.base.reply_rule) (extension_configuration r) r.token_url
    c.args.http_client.now c.request-end.new.http_client c.show_end.new.events status
    c.request-end.result c.request-end.ensures.once fed
    (shows _ exchange_written-data exchange_error_told)))
    c.show_end.ensures

pub returns-in-Err : goal.returns-in-Err
returns-in-Err c =
    IfOk-weaker c.show_grant_fault.result _ _
    (λ status told. λ fed.
    refused_told (IsExchangeAsked (client_replies c.args.http_client.now)) c.args.request (map pair_texts c.args.extra.now) _ _ status
    c.in-Err.fault c.in-Err.ensures.err told)
    c.show_grant_fault.ensures
