-- What a function returns that reads a part of a script.
use Rattle.std.specs.Prelude.{◌≡◌, Result, Ok, Err}
use Rattle.oauth2_script_values.specs.Reading as reading
use Rattle.oauth2_script_values.specs.Reading.{Reading}
use Rattle.oauth2_script_values.specs.declared.script_cause.ScriptCause.{ScriptCause}
use Rattle.oauth2_script_values.specs.declared.path.Step.{Step}
use Rattle.oauth2_script_values.specs.declared.path.Step.TheVariants as steps
use Rattle.oauth2_script_values.specs.declared.path.Path.{Path}
use Rattle.oauth2_script_values.specs.declared.part_error.PartFault.{PartFault}
use Rattle.oauth2_script_values.specs.declared.part_error.PartError.{PartError}
use Rattle.oauth2_script_values.specs.declared.part_error.PartError.TheVariants as errors

-- a step as contracts see it
abbrev pub step_view : Step → reading.Step
step_view (steps.Member name) = reading.to_member name.now
step_view (steps.Item index) = reading.to_item index
step_view steps.End = reading.end

-- a path as contracts see it
abbrev pub path_view : Path → reading.Path
path_view p = record {
  first = step_view p.first;
  second = step_view p.second;
  third = step_view p.third;
  fourth = step_view p.fourth;
}

-- a fault of a part as contracts see it
abbrev pub fault_view : PartFault → reading.PartFault
fault_view f = record { path = path_view f.path; why = f.why }

-- the error of a reader: `Bad` only with the fault that the specification has; `Memory` says nothing
abbrev pub TellsPartError : {Y : Type 0} → PartError → Reading Y → Type 0
TellsPartError (errors.Bad f) wanted = wanted ≡ Err (fault_view f)
TellsPartError errors.Memory wanted = Unit {0}

-- the result of a reader: a value whose view is what the specification reads, or an error that
-- `TellsPartError` allows
abbrev pub Gives : {X Y : Type 0} → (X → Y) → Result X PartError → Reading Y → Type 0
Gives view (Ok x) wanted = wanted ≡ Ok (view x)
Gives view (Err e) wanted = TellsPartError e wanted

-- the error is not that memory ran out
abbrev pub IsBad : PartError → Type 0
IsBad (errors.Bad f) = Unit {0}
IsBad errors.Memory = ⊥

-- the error of a value that is bad itself
abbrev pub bad_error : ScriptCause → PartError
bad_error why =
    errors.Bad
    (record { path = record { first = steps.End; second = steps.End; third = steps.End; fourth = steps.End }; why = why })
