-- A store that keeps one value under a name, with the renewals that use it and with others.
use Rattle.std.specs.Prelude.{◌≡◌, ℕ, ◌+◌, ◌≤◌, ◌==◌, if◌then◌else◌, true, false, List, [], ◌∷◌, ◌++◌, Option, Some, None}
use Rattle.std.specs.List.{Contains}
use Rattle.oauth2_shared_token.specs.declared.renewal.Content.{Content}
use Rattle.oauth2_shared_token.specs.declared.renewal.Content.TheVariants as content
use Rattle.oauth2_shared_token.specs.declared.renewal.StoredValue.{StoredValue}
use Rattle.oauth2_shared_token.specs.declared.renewal.Turn.{Turn}
use Rattle.oauth2_shared_token.specs.State.{Token}
use Rattle.oauth2_shared_token.specs.Run.{has_refresh}
use Rattle.oauth2_shared_token.specs.Renewal.{next_turn}
use Rattle.oauth2_shared_keeper.specs.Call.{Call, Load, Replace, Refresh, ToReplace, request_of, told_by}
use Rattle.oauth2_shared_keeper.specs.Renewal.{asked_by, first_turn}
use Rattle.oauth2_shared_keeper.specs.Fleets.{FleetEvent, Made, Other, IsFleet, sends_of}

-- a stored value: this content, under this version
abbrev pub value : {T : Type 0} → ℕ → Content T → StoredValue T
value version content = record { version = version; content = content }

-- what is stored now, all that ever was, what was asked for: to put this in the place of this version; and the
-- turn of each renewal, by its name
pub record World (T : Type 0) : Type 0 where
  pub now : StoredValue T
  pub past : List (StoredValue T)
  pub asked : List (ℕ × Content T)
  pub turns : ℕ → Turn T

-- what happens
pub data StoreEvent (T : Type 0) : Type 0 where
  -- the renewal of this name asks the store to put this in the place of this version
  Asks : ℕ → ℕ → Content T → StoreEvent T
  -- the store does what it was asked, at once, late or again; its reply may be lost
  Takes : ℕ → Content T → StoreEvent T
  -- a call of the renewal of this name ends, and tells this
  Ends : ℕ → Call T → StoreEvent T
  -- somebody else puts a token, or nothing, in the place of this version
  Puts : ℕ → Option T → StoreEvent T

-- what a call tells is so: a load shows something that was stored, and a request is told to be done only if it was
abbrev pub TellsTruth : {T : Type 0} → List (StoredValue T) → Call T → Type 0
TellsTruth past (Load None) = Unit {0}
TellsTruth past (Load (Some p)) = Contains past p
TellsTruth past (Replace version content true) = Contains past (value (version + 1) content)
TellsTruth past (Replace version content false) = Unit {0}
TellsTruth past (Refresh token given) = Unit {0}

-- the content that somebody else puts into the store: a token at rest, or nothing, but no mark
abbrev pub content_put : {T : Type 0} → Option T → Content T
content_put (Some token) = content.AtRest token
content_put None = content.Empty

-- when each can happen: a renewal asks for what its turn says, and the store puts something only in the place of
-- the version that it has, in one step
abbrev pub MayHappen : {T : Type 0} → World T → StoreEvent T → Type 0
MayHappen w (Asks i version content) =
    asked_by i (w.turns i).phase (w.turns i).step ≡ Some (ToReplace version content)
MayHappen w (Takes version content) =
    Contains w.asked (version, content) × (w.now.version ≡ version)
MayHappen w (Ends i call) =
    (asked_by i (w.turns i).phase (w.turns i).step ≡ Some (request_of call))
    × TellsTruth w.past call
MayHappen w (Puts version token) = w.now.version ≡ version

-- the store has put this in the place of this version
abbrev pub world_with : {T : Type 0} → World T → ℕ → Content T → World T
world_with w version content = record w {
  now = value (version + 1) content;
  past = w.past ++ value (version + 1) content ∷ [];
}

-- the renewal of this name is in this turn, and the others are where they were
abbrev pub turns_after : {T : Type 0} → (ℕ → Turn T) → ℕ → Turn T → ℕ → Turn T
turns_after turns i turn j = if j == i then turn else turns j

-- the store, the requests and the turns after an event
abbrev pub world_after : {T : Type 0} → World T → StoreEvent T → World T
world_after w (Asks i version content) = record w { asked = w.asked ++ (version, content) ∷ [] }
world_after w (Takes version content) = world_with w version content
world_after w (Ends i call) = record w {
  turns = turns_after w.turns i (next_turn i (w.turns i).phase (told_by call));
}
world_after w (Puts version token) = world_with w version (content_put token)

-- each can happen when its turn comes; renewals may stop anywhere
abbrev pub IsStoreRun : {T : Type 0} → World T → List (StoreEvent T) → Type 0
IsStoreRun w [] = Unit {0}
IsStoreRun w (event ∷ rest) = MayHappen w event × IsStoreRun (world_after w event) rest

-- this token is stored, and no renewal has begun
abbrev pub world_of : {T : Type 0} → T → World T
world_of token = record {
  now = value 0 (content.AtRest token);
  past = value 0 (content.AtRest token) ∷ [];
  asked = [];
  turns = λ i. first_turn;
}

-- how often this content has this refresh token at rest: once, or not at all
abbrev pub rests_in : {T : Type 0} → (T → Token) → List ℕ → Content T → ℕ
rests_in view r (content.AtRest token) = has_refresh r (view token)
rests_in view r (content.Marked token other) = 0
rests_in view r content.Empty = 0

-- how often these events put this refresh token into the store, at rest
abbrev pub times_put : {T : Type 0} → (T → Token) → List ℕ → List (StoreEvent T) → ℕ
times_put view r [] = 0
times_put view r (Asks i version content ∷ rest) = times_put view r rest
times_put view r (Takes version content ∷ rest) = rests_in view r content + times_put view r rest
times_put view r (Ends i call ∷ rest) = times_put view r rest
times_put view r (Puts version token ∷ rest) =
    rests_in view r (content_put token) + times_put view r rest

-- how often the calls that ended sent this refresh token (RFC 6749, 6)
abbrev pub refreshes_sent : {T : Type 0} → (T → Token) → List ℕ → List (StoreEvent T) → ℕ
refreshes_sent view r [] = 0
refreshes_sent view r (Asks i version content ∷ rest) = refreshes_sent view r rest
refreshes_sent view r (Takes version content ∷ rest) = refreshes_sent view r rest
refreshes_sent view r (Ends i call ∷ rest) = sends_of view r call + refreshes_sent view r rest
refreshes_sent view r (Puts version token ∷ rest) = refreshes_sent view r rest

-- the calls that ended, each with the name of its renewal
abbrev pub calls_ended : {T : Type 0} → List (StoreEvent T) → List (ℕ × Call T)
calls_ended [] = []
calls_ended (Asks i version content ∷ rest) = calls_ended rest
calls_ended (Takes version content ∷ rest) = calls_ended rest
calls_ended (Ends i call ∷ rest) = (i, call) ∷ calls_ended rest
calls_ended (Puts version token ∷ rest) = calls_ended rest

-- the calls that the renewals of a fleet made, each with the name of its renewal
abbrev pub calls_made : {T : Type 0} → List (FleetEvent T) → List (ℕ × Call T)
calls_made [] = []
calls_made (Made i call ∷ events) = (i, call) ∷ calls_made events
calls_made (Other happening ∷ events) = calls_made events

module _ (T : Type 0) where
  -- the calls of renewals over a store are those of a fleet, whose laws hold of them
  abbrev pub EachStoreHasAFleet : Type 0
  EachStoreHasAFleet =
      (view : T → Token) (start : T) (events : List (StoreEvent T)) →
      IsStoreRun (world_of start) events →
      (fleet : List (FleetEvent T)) × IsFleet view (view start) fleet × (calls_made fleet ≡ calls_ended events)

  -- so a refresh token that was put there once, at first or later, is sent at most once by all renewals
  abbrev pub EachTokenOfAStoreIsSentOnce : Type 0
  EachTokenOfAStoreIsSentOnce =
      (view : T → Token) (start : T) (events : List (StoreEvent T)) (r : List ℕ) →
      IsStoreRun (world_of start) events →
      has_refresh r (view start) + times_put view r events ≤ 1 →
      refreshes_sent view r events ≤ 1
