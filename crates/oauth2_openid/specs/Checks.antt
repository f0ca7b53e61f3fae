-- The outcome of a rule for a token, several rules one after another, and lists of texts.
use Rattle.std.specs.Prelude.{ℕ, List, [], ◌∷◌, Bool, true, false, ◌&&◌, ◌||◌, if◌then◌else◌, Result, Ok, Err, bytes_eq}

-- the outcome of a rule: `Ok` if it holds, else the error that names it
abbrev pub Verdict : Type 0 → Type 0
Verdict E = Result Unit E

-- the outcome of a rule: `Ok` if its condition is met, else this error
abbrev pub rule : {E : Type 0} → Bool → E → Verdict E
rule is_met error = if is_met then Ok tt else Err error

-- one rule and then another: if both are broken, the first is the error
infixr 20 ◌then◌
abbrev pub ◌then◌ : {E A : Type 0} → Verdict E → Result A E → Result A E
(Ok u) then later = later
(Err e) then later = Err e

-- whether the text is one of the list, byte for byte
abbrev pub is_among : List ℕ → List (List ℕ) → Bool
is_among text [] = false
is_among text (first ∷ later) = bytes_eq first text || is_among text later

-- whether each text of the first list is in the second
abbrev pub are_among : List (List ℕ) → List (List ℕ) → Bool
are_among [] known = true
are_among (first ∷ later) known = is_among first known && are_among later known
