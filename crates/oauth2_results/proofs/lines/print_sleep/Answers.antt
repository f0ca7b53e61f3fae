use Rattle.std.proofs.Common.{◌/◌, ◌%◌, codes}
use Rattle.std.specs.Duration.{as_nanos}
use Rattle.std.specs.Fmt.{decimal}
use Rattle.oauth2_results.specs.Lines.{nine_digits, sleep_line}
use Rattle.oauth2_results.proofs.Sleeps.{nine_digits_written, regroup}
use Rattle.oauth2_results.proofs.lines.print_sleep.Goals as goal

pub returns : goal.returns
unfolding sleep_line
returns c =
    let n = as_nanos c.args.duration in
    rw (← regroup (decimal (n / 1_000_000_000)) (nine_digits (n % 1_000_000_000)) (codes "\n"))
    (rw (c.laid_out.ensures, c.as_secs-seconds.ensures, c.subsec_nanos-nanos.ensures, nine_digits_written) at c.writeln.ensures.bytes)
