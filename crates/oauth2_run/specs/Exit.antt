-- The exit status of the process.
use Rattle.std.specs.Prelude.{ℕ, Result, Ok, Err}
use Rattle.oauth2_request_commands.specs.declared.status.RunStatus.{RunStatus}
use Rattle.oauth2_request_commands.specs.declared.status.RunStatus.TheVariants.{Answered, Fault, BadScript}
use Rattle.oauth2_commands.specs.declared.status.RunFault.{RunFault}

-- 0 an answer; 1 a fault or a wait; 2 a bad script; 3 input, output or memory failed
abbrev pub run_exit_status : Result RunStatus RunFault → ℕ
run_exit_status (Ok Answered) = 0
run_exit_status (Ok Fault) = 1
run_exit_status (Ok BadScript) = 2
run_exit_status (Err fault) = 3
