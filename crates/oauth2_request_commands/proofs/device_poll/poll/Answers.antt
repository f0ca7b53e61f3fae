use Rattle.std.specs.Int.NonZero.{non_zero_u64_get}
use Rattle.std.proofs.lemmas.Result.{IfOk-weaker}
use Rattle.oauth2_device.specs.Poll.{timeout_of}
use Rattle.oauth2_request_commands.specs.Exchange.{token_json}
use Rattle.oauth2_request_commands.proofs.Polls.{poll_told}
use Rattle.oauth2_request_commands.proofs.Results.{token_free, token_written-data, device_error_told}
use Rattle.oauth2_request_commands.proofs.device_poll.poll.Goals as goal

pub show_end-requires : goal.show_end-requires
show_end-requires c = token_free

pub returns : goal.returns
unfolding token_json
returns c =
    let seen = rw c.get.ensures.value at c.poll_with-end.ensures.poll in
    IfOk-weaker c.show_end.result _ _
    (λ status shows. λ fed.
    poll_told c.args.request.request (timeout_of c.args.request.request c.args.timeout) (non_zero_u64_get c.args.max_polls) c.args.world.now seen.0
    c.poll_with-end.new.world c.show_end.new.events status c.poll_with-end.result seen.2 seen.1 fed
    (shows _ token_written-data device_error_told))
    c.show_end.ensures
