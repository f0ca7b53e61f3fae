use Rattle.std.proofs.Common.{refl}
use Rattle.oauth2_commands.specs.Run.{bad_output}
use Rattle.oauth2_script.specs.Gives.{script_fault_view}
use Rattle.oauth2_commands.proofs.run.run_read.Goals as goal

pub returns-in_ok-push-in-Err : goal.returns-in_ok-push-in-Err
returns-in_ok-push-in-Err c =
    let shown = bad_output (script_fault_view c.in-Err.fault) in
    (shown, rw c.in-Err.is refl, rw c.new-events.ensures at c.in_ok-push-in-Err.ensures, refl)
