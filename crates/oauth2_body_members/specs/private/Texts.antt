-- What the tokens of a body read to.
use Rattle.std.specs.Prelude.{◌≡◌, ℕ, List, [], ◌∷◌, Bool, Option, Some, None, Result, Ok, Err}
use Rattle.json.specs.Token.{Token}
use Rattle.serde_json.specs.Data.{Members}
use Rattle.oauth2_json.specs.Reading.{Reading, ErrsAs, whole}
use Rattle.oauth2_json.specs.declared.read.ReadError.{ReadError}
use Rattle.oauth2_body_members.specs.Object.{Keeps}
use Rattle.oauth2_json.specs.declared.read.ParseCause.TheVariants as cause

-- what was read; `None` is the fault `NotJson` of the whole body
abbrev pub or_not_json : {A : Type 0} → Option A → Reading A
or_not_json None = Err (whole cause.NotJson)
or_not_json (Some a) = Ok a

-- what was read, if no token is left; else `None`
abbrev pub at_end : {A : Type 0} → Option (A × List Token) → Option A
at_end None = None
at_end (Some (a, [])) = Some a
at_end (Some (a, t ∷ ts)) = None

-- the result keeps these members of those that were read, and `rest` are the tokens that are left;
-- an error is that of the reading, unless memory ran out
abbrev pub StopsAs : {T : Type 0} → (T → Members) → List (List ℕ) → Bool → List Token → Result T ReadError → Reading (Members × List Token) → Type 0
StopsAs meaning names with_others rest (Ok t) expected = (all : Members) × (expected ≡ Ok (all, rest)) × Keeps names with_others all (meaning t)
StopsAs meaning names with_others rest (Err e) expected = ErrsAs e expected

-- `P` holds of what was found, or of the error; nothing is claimed of `Ok(None)`, a search given up
abbrev pub IfFound : {A : Type 0} → Result (Option A) ReadError → (Result A ReadError → Type 0) → Type 0
IfFound (Ok None) P = Unit {0}
IfFound (Ok (Some a)) P = P (Ok a)
IfFound (Err e) P = P (Err e)
