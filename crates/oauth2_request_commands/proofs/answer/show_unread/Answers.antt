use Rattle.std.proofs.Common.{◌≡◌, string_bytes, codes}
use Rattle.oauth2_request_commands.proofs.answer.show_unread.Goals as goal

pub returns : goal.returns
returns c =
    let text : string_bytes c.in_ok-from_str.field-0 ≡ codes "Failed to parse server response" = c.in_ok-from_str.ensures.ok in
    let member : string_bytes c.in_ok-from_str-2.field-0 ≡ string_bytes c.args.fault.now.member = rw c.as_str.ensures.value at c.in_ok-from_str-2.ensures.ok in
    rw (text, member) at c.in_ok-status.ensures
