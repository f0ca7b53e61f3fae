-- What a value of a script is read as: a part, or where it is bad and why.
use Rattle.std.specs.Prelude.{ℕ, List, Option, Some, None, Result, Ok, Err}
use Rattle.oauth2_script_values.specs.declared.script_cause.ScriptCause.{ScriptCause}

-- one step from a value to a value inside it; `end` is none
pub data Step : Type 0 where
  to_member : List ℕ → Step
  to_item : ℕ → Step
  end : Step

-- the steps from a value to a value inside it, of which a script has four at most
pub record Path : Type 0 where
  pub first : Step
  pub second : Step
  pub third : Step
  pub fourth : Step

-- the value itself
abbrev pub here : Path
here = record { first = end; second = end; third = end; fourth = end }

-- this step, and then the path
abbrev pub step_and : Step → Path → Path
step_and step p = record { first = step; second = p.first; third = p.second; fourth = p.third }

-- which value is bad, and why
pub record PartFault : Type 0 where
  pub path : Path
  pub why : ScriptCause

-- what a value is read as: a part, or a fault
abbrev pub Reading : Type 0 → Type 0
Reading A = Result A PartFault

infixl 10 ◌>>=◌
-- applies `f` to what was read; a fault is passed on
abbrev pub ◌>>=◌ : {A B : Type 0} → Reading A → (A → Reading B) → Reading B
(Ok x) >>= f = f x
(Err e) >>= f = Err e

-- what was read, changed by a function
abbrev pub map_read : {A B : Type 0} → (A → B) → Reading A → Reading B
map_read f (Ok x) = Ok (f x)
map_read f (Err e) = Err e

-- the fault of a value that is bad itself
abbrev pub fault : ScriptCause → PartFault
fault why = record { path = here; why = why }

-- the value itself is bad
abbrev pub bad : {A : Type 0} → ScriptCause → Reading A
bad why = Err (fault why)

-- what there is, or else a bad value
abbrev pub or_bad : {A : Type 0} → ScriptCause → Option A → Reading A
or_bad why (Some x) = Ok x
or_bad why None = bad why

-- the fault of a value, as one of the value around it: the step to the inner value comes first in
-- the path
abbrev pub fault_inside : Step → PartFault → PartFault
fault_inside step f = record { path = step_and step f.path; why = f.why }

-- what was read of a value one step further in
abbrev pub inside : {A : Type 0} → Step → Reading A → Reading A
inside step (Ok x) = Ok x
inside step (Err f) = Err (fault_inside step f)

-- the member of this name is bad
abbrev pub bad_member : {A : Type 0} → List ℕ → ScriptCause → Reading A
bad_member name why = inside (to_member name) (bad why)
