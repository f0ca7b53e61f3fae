-- The debug texts of types that hold one text.
use Rattle.std.specs.Prelude.{ℕ, List, Bool, true, false, Option, Some, Result, codes}
use Rattle.std.specs.declared.fmt.Formatter.{Formatter}
use Rattle.std.specs.declared.fmt.Error.{Error}
use Rattle.std.specs.Fmt.{DisplaysStyledOnOk, ◌++?◌, debug_str, debug_variant, formatter_spec, spec_alternate}

-- `name("text")`, the text escaped as by `{:?}`; under `{:#?}` (true) the text has a separate line
abbrev pub debug_text : List ℕ → List ℕ → Bool → Option (List ℕ)
debug_text name text true = Some name ++? Some (codes "(\n    ") ++? debug_str text ++? Some (codes ",\n)")
debug_text name text false = debug_variant name (debug_str text)

-- if the result is `Ok`, the debug text was written, whatever options the formatter has
abbrev pub WritesDebugText : {W : Type 0} → (W → List ℕ → W → Type 0) → Formatter W → Result (Unit {0}) Error → List ℕ → List ℕ → Formatter W → Type 0
WritesDebugText took f r name text g =
    DisplaysStyledOnOk took f r (debug_text name text (spec_alternate (formatter_spec f))) g
