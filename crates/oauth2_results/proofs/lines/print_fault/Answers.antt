use Rattle.std.proofs.Common.{◌≡◌, string_bytes, codes, append_assoc, refl}
use Rattle.oauth2_world.specs.Events.{details_of}
use Rattle.oauth2_world.specs.Quotation.{quotation}
use Rattle.oauth2_results.specs.Lines.{fault_line, unread_words}
use Rattle.oauth2_results.proofs.lines.print_fault.Goals as goal

pub returns : goal.returns
unfolding fault_line
returns c =
    let text : string_bytes c.in_ok-text.text ≡ quotation (string_bytes c.args.fault.now.text) = rw (c.in_ok-text.ensures, c.as_str.ensures.value) refl in
    let unread : string_bytes c.in_ok-unread.unread ≡ unread_words (details_of c.args.fault.now.details) = c.in_ok-unread.ensures in
    rw (← text, ← unread, append_assoc (string_bytes c.in_ok-text.text) (string_bytes c.in_ok-unread.unread) (codes "\n")) c.writeln.ensures.bytes
