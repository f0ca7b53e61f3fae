-- The exit status of a run that failed.
use Rattle.std.specs.Prelude.{ℕ}
use Rattle.oauth2_examples.specs.declared.over_connection.fault.Fault.{Fault}

-- the exit status of a fault: 2 if a setting is wrong or cannot be read, otherwise 1
abbrev pub fault_exit_status : Fault → ℕ
fault_exit_status (Fault.Setting error) = 2
fault_exit_status (Fault.Unreadable name) = 2
fault_exit_status (Fault.Unwritable name) = 1
fault_exit_status (Fault.Unanswered told) = 1
fault_exit_status Fault.Memory = 1
