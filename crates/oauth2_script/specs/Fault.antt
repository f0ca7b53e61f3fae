-- The fault of a bad script, in texts.
use Rattle.std.specs.Prelude.{ℕ, List, Result, Ok, Err}
use Rattle.oauth2_script_values.specs.Path.{path_text}
use Rattle.oauth2_script_values.specs.Reading.{Reading}
use Rattle.oauth2_script_values.specs.declared.script_cause.ScriptCause.{ScriptCause}

-- the first member that is bad, and why
pub record Fault : Type 0 where
  pub member : List ℕ
  pub why : ScriptCause

-- what was read, or its fault with the path as a text
abbrev pub told : {A : Type 0} → Reading A → Result A Fault
told (Ok x) = Ok x
told (Err e) = Err (record { member = path_text e.path; why = e.why })
