use Rattle.std.proofs.Common.{◌≡◌, string_bytes}
use Rattle.oauth2_results.specs.Json.{optional_number}
use Rattle.oauth2_results.specs.Lines.{wait_line}
use Rattle.oauth2_results.proofs.lines.print_wait.Goals as goal

pub returns : goal.returns
unfolding wait_line
returns c = let e : string_bytes c.in_ok-until.until ≡ optional_number c.args.until = c.in_ok-until.ensures in rw (← e) c.writeln.ensures.bytes
