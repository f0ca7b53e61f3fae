use Rattle.std.proofs.Common.{◌≡◌}
use Rattle.std.proofs.lemmas.Result.{IfOk-weaker}
use Rattle.oauth2_codes.specs.ErrorCodes.{error_code, error_code_text}
use Rattle.oauth2_codes.specs.ErrorResponse.{parts_of}
use Rattle.oauth2_metadata.specs.Reply.{found_seen}
use Rattle.oauth2_metadata.specs.Request.{IsGetOf}
use Rattle.oauth2_request_commands.specs.Exchange.{error_members}
use Rattle.oauth2_commands.specs.Metadata.{metadata_answer, metadata_output}
use Rattle.oauth2_request_commands.specs.Out.{AddsOutput}
use Rattle.oauth2_commands.specs.private.Discovery.{discovery_output, metadata_meaning}
use Rattle.oauth2_request_commands.specs.Faults.{end_output}
use Rattle.oauth2_request_commands.specs.private.Results.{error_seen}
use Rattle.oauth2_commands.proofs.Discovery.{judged_shown}
use Rattle.oauth2_request_commands.proofs.Exchanges.{request_told}
use Rattle.oauth2_commands.proofs.metadata.ask.Goals as goal

pub returns : goal.returns
returns c =
    let query = c.args.request in
    let once = c.request-end.ensures.once in
    let outcome = once.0 in
    let same : discovery_output c.request-end.result ≡ end_output error_seen (λ found. metadata_output query.issuer (found_seen metadata_meaning found)) outcome =
    judged_shown query.issuer outcome c.request-end.result once.1 in
    IfOk-weaker c.show_metadata.result _ _
    (λ status printed. λ fed.
    (let told : AddsOutput c.request-end.new.http_client.events c.show_metadata.new.events status
    (end_output error_seen (λ found. metadata_output query.issuer (found_seen metadata_meaning found)) outcome) = rw same at printed in
    request_told (found_seen metadata_meaning) (parts_of error_code) (metadata_output query.issuer) (error_members error_code_text) (metadata_answer query.reply_rule)
    IsGetOf query.url
    c.args.http_client.now c.request-end.new.http_client c.show_metadata.new.events status outcome once.2 fed told))
    c.show_metadata.ensures
