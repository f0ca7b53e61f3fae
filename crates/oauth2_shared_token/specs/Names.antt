-- A store that keeps a value under each of many names: for each scope or audience, say. Each name has
-- a fleet of its own.
use Rattle.std.specs.Prelude.{ℕ, zero, suc, ◌+◌, ◌≤◌, ◌==◌, if◌then◌else◌, List, [], ◌∷◌}
use Rattle.oauth2_shared_token.specs.State.{Token}
use Rattle.oauth2_shared_token.specs.Event.{SharedEvent}
use Rattle.oauth2_shared_token.specs.Run.{has_refresh, times_sent, times_stored}
use Rattle.oauth2_shared_token.specs.Fleet.{Fleet, Happening, CanOccur, later, fleet_of, IsFleetRun, all_events}

-- something happens under a name
pub record AtName : Type 0 where
  pub name : ℕ
  pub what : Happening

-- the fleets after that: those of other names are as they were
abbrev pub later_at : (ℕ → Fleet) → AtName → ℕ → Fleet
later_at fleets here n = if n == here.name then later (fleets n) here.what else fleets n

-- whatever happens can happen under its name when its turn comes
abbrev pub IsRunAtNames : (ℕ → Fleet) → List AtName → Type 0
IsRunAtNames fleets [] = Unit {0}
IsRunAtNames fleets (here ∷ rest) =
    CanOccur (fleets here.name) here.what × IsRunAtNames (later_at fleets here) rest

-- what happens under one name, in order
abbrev pub those_at : ℕ → List AtName → List Happening
those_at n [] = []
those_at n (here ∷ rest) = if n == here.name then here.what ∷ those_at n rest else those_at n rest

-- under each name a token is stored, and no machine has begun
abbrev pub fleets_of : (ℕ → Token) → ℕ → Fleet
fleets_of starts n = fleet_of (starts n)

-- what happens under one name is a run of its fleet, whatever happens under the others, so that all laws
-- hold under each name
abbrev pub EachNameRuns : Type 0
EachNameRuns =
    (starts : ℕ → Token) (all : List AtName) (n : ℕ) →
    IsRunAtNames (fleets_of starts) all →
    IsFleetRun (fleet_of (starts n)) (those_at n all)

-- the events under one name
abbrev pub events_at : (ℕ → Token) → List AtName → ℕ → List SharedEvent
events_at starts all n = all_events (fleet_of (starts n)) (those_at n all)

-- added up over the names below this one
abbrev pub over_names : ℕ → (ℕ → ℕ) → ℕ
over_names zero f = 0
over_names (suc n) f = over_names n f + f n

-- how often a refresh token is sent, under all names below this one
abbrev pub sent_over_names : ℕ → (ℕ → Token) → List AtName → List ℕ → ℕ
sent_over_names names starts all r = over_names names (λ n. times_sent r (events_at starts all n))

-- how often a refresh token came to be stored, under all names below this one
abbrev pub stored_over_names : ℕ → (ℕ → Token) → List AtName → List ℕ → ℕ
stored_over_names names starts all r =
    over_names names (λ n. has_refresh r (starts n) + times_stored r (events_at starts all n))

-- a refresh token is sent no more often, over all names, than it came to be stored under any of them
abbrev pub EachSendingOverNamesWasStored : Type 0
EachSendingOverNamesWasStored =
    (names : ℕ) (starts : ℕ → Token) (all : List AtName) (r : List ℕ) →
    IsRunAtNames (fleets_of starts) all →
    sent_over_names names starts all r ≤ stored_over_names names starts all r

-- so one that came to be stored once, under one name, is sent at most once, over all names
abbrev pub EachIsSentOnceOverNames : Type 0
EachIsSentOnceOverNames =
    (names : ℕ) (starts : ℕ → Token) (all : List AtName) (r : List ℕ) →
    IsRunAtNames (fleets_of starts) all →
    stored_over_names names starts all r ≤ 1 →
    sent_over_names names starts all r ≤ 1
