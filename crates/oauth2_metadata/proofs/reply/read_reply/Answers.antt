use Rattle.std.proofs.Common.{sym, ◌∙◌}
use Rattle.oauth2_codes.specs.ErrorCodes.{error_code_reading}
use Rattle.oauth2_codes.specs.ErrorResponse.{error_reading}
use Rattle.oauth2_wire.specs.Reply.{answer_of, reply_of}
use Rattle.oauth2_metadata.specs.Metadata.{metadata_reading}
use Rattle.oauth2_metadata.proofs.ReplyLaws.{failure_told}
use Rattle.oauth2_metadata.proofs.reply.read_reply.Goals as goal

pub returns-else-status-eq200 : goal.returns-else-status-eq200
returns-else-status-eq200 g c =
    let view = reply_of c.args.reply in
    let reading = metadata_reading g.EF.FromJson.reading in
    let says = answer_of c.args.rule reading (error_reading error_code_reading) view in
    rw (failure_told c.args.rule reading (error_reading error_code_reading) view c.as_u16-status.result (c.as_u16-status.ensures.value ∙ c.status.ensures) (sym c.if-is_redirect.ensures) c.if-status-eq200.false)
    (c.by_status.ensures says c.endpoint_response_with-read.ensures)
