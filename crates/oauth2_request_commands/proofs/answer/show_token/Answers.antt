use Rattle.std.proofs.lemmas.Result.{IfOk-weaker}
use Rattle.oauth2_codes.specs.ErrorCodes.{error_code, error_code_text}
use Rattle.oauth2_codes.specs.ErrorResponse.{parts_of}
use Rattle.oauth2_request_commands.specs.Exchange.{token_answer, token_json, error_members}
use Rattle.oauth2_request_commands.specs.private.Results.{token_meaning}
use Rattle.oauth2_request_commands.proofs.Exchanges.{exchange_told}
use Rattle.oauth2_request_commands.proofs.Results.{token_free, token_written-data, error_told}
use Rattle.oauth2_request_commands.proofs.answer.show_token.Goals as goal

pub show_end-requires : goal.show_end-requires
show_end-requires c = token_free

pub returns : goal.returns
unfolding token_json
returns c = λ before rule configuration endpoint once.
    IfOk-weaker c.show_end.result _ _
    (λ status shows. λ fed.
    exchange_told token_meaning (parts_of error_code) token_json (error_members error_code_text)
    (token_answer rule) configuration endpoint before c.args.http_client.now
    c.show_end.new.events status c.args.end.now once fed
    (shows _ token_written-data error_told))
    c.show_end.ensures
