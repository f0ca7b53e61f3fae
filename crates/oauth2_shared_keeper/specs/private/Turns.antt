-- Single rounds of a keeper, and the rounds so far.
use Rattle.std.specs.Prelude.{ℕ, ℤ, Bool, List, [], ◌∷◌, ◌++◌}
use Rattle.std.specs.declared.time.Duration.{Duration}
use Rattle.oauth2_shared_keeper.specs.declared.held.Held.{Held}
use Rattle.oauth2_shared_keeper.specs.declared.outcome.Outcome.{Outcome}
use Rattle.oauth2_shared_keeper.specs.declared.outcome.Outcome.TheVariants.{Ends, Waits}
use Rattle.oauth2_shared_keeper.specs.declared.settings.KeeperSettings.{KeeperSettings}
use Rattle.oauth2_shared_keeper.specs.Keeper.{Round, IsRound, Slept, KeeperCall, Lived, keeper_calls_of}

-- what the round would tell
abbrev pub told_by : {T E : Type 0} → Outcome T E → Held T E
told_by (Ends told) = told
told_by (Waits told) = told

-- a fact, if the keeper waits
abbrev pub IfWaits : {T E : Type 0} → Outcome T E → Type 0 → Type 0
IfWaits (Ends told) P = Unit {0}
IfWaits (Waits told) P = P

-- each of these rounds waits
abbrev pub EachWaits : {T E : Type 0} → (T → ℤ → ℕ → Bool) → KeeperSettings → List (Round T E)
    → Type 0
EachWaits is_good settings [] = Unit {0}
EachWaits {T} {E} is_good settings (round ∷ rounds) =
    ((seen : Held T E) × IsRound is_good settings round (Waits seen)) × EachWaits is_good settings rounds

-- the calls of rounds after each of which the keeper slept
abbrev pub slept_calls : {T E : Type 0} → Duration → List (Round T E) → List (KeeperCall T)
slept_calls wait [] = []
slept_calls wait (round ∷ rounds) =
    keeper_calls_of round ++ Lived (Slept wait) ∷ slept_calls wait rounds
