-- The fault of a script as contracts see it.
use Rattle.std.specs.Prelude.{string_bytes}
use Rattle.oauth2_script.specs.Fault.{Fault}
use Rattle.oauth2_script.specs.declared.script_fault.ScriptFault.{ScriptFault}

-- the fault of a script as contracts see it
abbrev pub script_fault_view : ScriptFault → Fault
script_fault_view f = record { member = string_bytes f.member; why = f.why }
