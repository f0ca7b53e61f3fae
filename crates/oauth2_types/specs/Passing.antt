-- What writing to a `Through` does, which is a writer around a formatter.
use Rattle.std.specs.Prelude.{◌≡◌, ℕ, List}
use Rattle.std.specs.declared.fmt.Formatter.{Formatter}
use Rattle.std.specs.Fmt.{IsFlush, HasWrittenStyled}
use Rattle.oauth2_types.specs.declared.display.Through.{Through}

-- the text is written to the formatter, and the `Through` keeps the same reference to it
abbrev pub PassesOn : {W : Type 0} → (W → List ℕ → W → Type 0) → Through W → List ℕ → Through W → Type 0
PassesOn took s text t =
    (IsFlush s.f.now → HasWrittenStyled took s.f.now text t.f.now) × (t.f.ghost_name ≡ s.f.ghost_name)
