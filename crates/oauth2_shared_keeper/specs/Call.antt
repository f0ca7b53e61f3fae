-- The calls that a renewal makes, in order: what each asked, and what it told.
use Rattle.std.specs.Prelude.{◌≡◌, ℕ, ◌+◌, Bool, true, false, List, [], ◌∷◌, Option, Some, None, Result, Ok, Err}
use Rattle.oauth2_shared_token.specs.declared.renewal.Content.{Content}
use Rattle.oauth2_shared_token.specs.declared.renewal.StoredValue.{StoredValue}
use Rattle.oauth2_shared_token.specs.declared.renewal.Told.{Told}
use Rattle.oauth2_shared_token.specs.declared.renewal.Told.TheVariants as told
use Rattle.oauth2_shared_keeper.specs.declared.replaced.Replaced.{Replaced}
use Rattle.oauth2_shared_keeper.specs.declared.replaced.Replaced.TheVariants.{Done, Refused}

-- what a renewal asks of its store and of its client
pub data Request (T : Type 0) : Type 0 where
  -- the store: to load what is stored
  ToLoad : Request T
  -- the store: to put this in the place of this version
  ToReplace : ℕ → Content T → Request T
  -- the client: to send the refresh token of this token (RFC 6749, 6)
  ToRefresh : T → Request T

-- a call
pub data Call (T : Type 0) : Type 0 where
  -- a load, with what it showed, if it told anything
  Load : Option (StoredValue T) → Call T
  -- a request to put this in the place of this version, and whether the store said that it did so
  Replace : ℕ → Content T → Bool → Call T
  -- a refresh with the refresh token of this token, and the new token, if the server gave one
  Refresh : T → Option T → Call T

-- what a call asks
abbrev pub request_of : {T : Type 0} → Call T → Request T
request_of (Load shown) = ToLoad
request_of (Replace version content done) = ToReplace version content
request_of (Refresh token given) = ToRefresh token

-- what a load tells
abbrev pub told_by_load : {T : Type 0} → Option (StoredValue T) → Told T
told_by_load (Some p) = told.Stored p
told_by_load None = told.Nothing

-- what a request to replace tells
abbrev pub told_by_replace : {T : Type 0} → Bool → Told T
told_by_replace true = told.Done
told_by_replace false = told.Nothing

-- what a refresh tells
abbrev pub told_by_refresh : {T : Type 0} → Option T → Told T
told_by_refresh (Some new) = told.Answer new
told_by_refresh None = told.Nothing

-- what a call tells the renewal
abbrev pub told_by : {T : Type 0} → Call T → Told T
told_by (Load shown) = told_by_load shown
told_by (Replace version content done) = told_by_replace done
told_by (Refresh token given) = told_by_refresh given

-- the value of a call that succeeded
abbrev pub success_of : {A E : Type 0} → Result A E → Option A
success_of (Ok value) = Some value
success_of (Err error) = None

-- the store said that it did what it was asked
abbrev pub is_done : {E : Type 0} → Result Replaced E → Bool
is_done (Ok Done) = true
is_done (Ok Refused) = false
is_done (Err error) = false

-- exactly the calls of the store among these, in order, can lead it from the first state to the last
abbrev pub StoreLeads : {T S SE : Type 0} → (S → List ℕ → Result (StoredValue T) SE → S → Type 0)
    → (S → List ℕ → ℕ → Content T → Result Replaced SE → S → Type 0)
    → List ℕ → S → List (Call T) → S → Type 0
StoreLeads {T} {S} {SE} loads replaces name s [] last = s ≡ last
StoreLeads {T} {S} {SE} loads replaces name s (Load shown ∷ calls) last =
    (answer : Result (StoredValue T) SE) × (next : S) × loads s name answer next × (shown ≡ success_of answer)
    × StoreLeads loads replaces name next calls last
StoreLeads {T} {S} {SE} loads replaces name s (Replace version content done ∷ calls) last =
    (answer : Result Replaced SE) × (next : S) × replaces s name version content answer next × (done ≡ is_done answer)
    × StoreLeads loads replaces name next calls last
StoreLeads {T} {S} {SE} loads replaces name s (Refresh token given ∷ calls) last =
    StoreLeads loads replaces name s calls last

-- exactly the calls of the client among these, in order, can lead it from the first state to the last
abbrev pub ClientLeads : {T C CE : Type 0} → (C → T → Result T CE → C → Type 0) → C → List (Call T)
    → C → Type 0
ClientLeads {T} {C} {CE} refreshes c [] last = c ≡ last
ClientLeads {T} {C} {CE} refreshes c (Load shown ∷ calls) last = ClientLeads refreshes c calls last
ClientLeads {T} {C} {CE} refreshes c (Replace version content done ∷ calls) last =
    ClientLeads refreshes c calls last
ClientLeads {T} {C} {CE} refreshes c (Refresh token given ∷ calls) last =
    (answer : Result T CE) × (next : C) × refreshes c token answer next × (given ≡ success_of answer)
    × ClientLeads refreshes next calls last

-- how many of the calls are loads
abbrev pub loads_in : {T : Type 0} → List (Call T) → ℕ
loads_in [] = 0
loads_in (Load shown ∷ calls) = 1 + loads_in calls
loads_in (Replace version content done ∷ calls) = loads_in calls
loads_in (Refresh token given ∷ calls) = loads_in calls

-- how many ask the store to replace something
abbrev pub replacements_in : {T : Type 0} → List (Call T) → ℕ
replacements_in [] = 0
replacements_in (Load shown ∷ calls) = replacements_in calls
replacements_in (Replace version content done ∷ calls) = 1 + replacements_in calls
replacements_in (Refresh token given ∷ calls) = replacements_in calls

-- how many send a refresh token
abbrev pub refreshes_in : {T : Type 0} → List (Call T) → ℕ
refreshes_in [] = 0
refreshes_in (Load shown ∷ calls) = refreshes_in calls
refreshes_in (Replace version content done ∷ calls) = refreshes_in calls
refreshes_in (Refresh token given ∷ calls) = 1 + refreshes_in calls
