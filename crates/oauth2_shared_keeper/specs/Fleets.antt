-- Renewals of many programs over one store, as a fleet of `oauth2_shared_token`.
use Rattle.std.specs.Prelude.{ℕ, ◌+◌, ◌≤◌, ◌==◌, if◌then◌else◌, List, [], ◌∷◌, Option}
use Rattle.std.specs.List.{Contains}
use Rattle.oauth2_shared_token.specs.declared.renewal.Content.{Content}
use Rattle.oauth2_shared_token.specs.declared.renewal.Content.TheVariants as content
use Rattle.oauth2_shared_token.specs.declared.renewal.Told.{Told}
use Rattle.oauth2_shared_token.specs.declared.renewal.Told.TheVariants as told
use Rattle.oauth2_shared_token.specs.declared.renewal.Turn.{Turn}
use Rattle.oauth2_shared_token.specs.State.{Token}
use Rattle.oauth2_shared_token.specs.Event.{Sent}
use Rattle.oauth2_shared_token.specs.Run.{has_refresh, times_stored}
use Rattle.oauth2_shared_token.specs.Fleet.{Happening, Turned, Took, SignsIn, Allows, LogsIn, LogsOut}
use Rattle.oauth2_shared_token.specs.Fleet.{fleet_of, IsFleetRun, all_events}
use Rattle.oauth2_shared_keeper.specs.Call.{Call, Load, Replace, Refresh, told_by}
use Rattle.oauth2_shared_keeper.specs.Renewal.{AsksInTurn, first_turn}

-- what happens where renewals run: the one of this name makes a call; or something else happens in the fleet
pub data FleetEvent (T : Type 0) : Type 0 where
  Made : ℕ → Call T → FleetEvent T
  Other : Happening → FleetEvent T

-- the calls of one renewal, in order
abbrev pub calls_of : {T : Type 0} → ℕ → List (FleetEvent T) → List (Call T)
calls_of i [] = []
calls_of i (Made j call ∷ events) = if i == j then call ∷ calls_of i events else calls_of i events
calls_of i (Other happening ∷ events) = calls_of i events

-- each renewal makes the calls that it asks for, and may stop anywhere
abbrev pub AreRenewals : {T : Type 0} → List (FleetEvent T) → Type 0
AreRenewals {T} events =
    (i : ℕ) → (last : Turn T) × AsksInTurn i first_turn (calls_of i events) last

-- it is no turn of a renewal
abbrev pub IsNoTurn : Happening → Type 0
IsNoTurn (Turned i told) = ⊥
IsNoTurn (Took request) = Unit {0}
IsNoTurn (SignsIn i version new) = Unit {0}
IsNoTurn (Allows i version token) = Unit {0}
IsNoTurn (LogsIn version new) = Unit {0}
IsNoTurn (LogsOut version) = Unit {0}

-- renewals take their turns by calls alone
abbrev pub TurnsAreCalls : {T : Type 0} → List (FleetEvent T) → Type 0
TurnsAreCalls [] = Unit {0}
TurnsAreCalls (Made i call ∷ events) = TurnsAreCalls events
TurnsAreCalls (Other happening ∷ events) = IsNoTurn happening × TurnsAreCalls events

-- the content of a version, with each token as `view` shows it
abbrev pub content_as : {T U : Type 0} → (T → U) → Content T → Content U
content_as view (content.AtRest token) = content.AtRest (view token)
content_as view (content.Marked token other) = content.Marked (view token) other
content_as view content.Empty = content.Empty

-- what a renewal is told, with each token as `view` shows it
abbrev pub told_as : {T U : Type 0} → (T → U) → Told T → Told U
told_as view (told.Stored p) =
    told.Stored (record { version = p.version; content = content_as view p.content })
told_as view told.Done = told.Done
told_as view told.Nothing = told.Nothing
told_as view (told.Answer new) = told.Answer (view new)
told_as view told.Stop = told.Stop

-- what happens in the fleet: a call is a turn of its renewal, which is told what the call told
abbrev pub happenings_of : {T : Type 0} → (T → Token) → List (FleetEvent T) → List Happening
happenings_of view [] = []
happenings_of view (Made i call ∷ events) =
    Turned i (told_as view (told_by call)) ∷ happenings_of view events
happenings_of view (Other happening ∷ events) = happening ∷ happenings_of view events

-- renewals over one store that begins with this token, where all that they are told is so (`CanOccur`)
pub record IsFleet {T : Type 0} (view : T → Token) (start : Token) (events : List (FleetEvent T)) : Type 0 where
  pub renewals : AreRenewals events
  pub turns : TurnsAreCalls events
  pub run : IsFleetRun (fleet_of start) (happenings_of view events)

-- how often a call sends this refresh token (RFC 6749, 6): once, or not at all
abbrev pub sends_of : {T : Type 0} → (T → Token) → List ℕ → Call T → ℕ
sends_of view r (Load shown) = 0
sends_of view r (Replace version content done) = 0
sends_of view r (Refresh token given) = has_refresh r (view token)

-- how often the calls of all renewals send this refresh token
abbrev pub times_refreshed : {T : Type 0} → (T → Token) → List ℕ → List (FleetEvent T) → ℕ
times_refreshed view r [] = 0
times_refreshed view r (Made i call ∷ events) = sends_of view r call + times_refreshed view r events
times_refreshed view r (Other happening ∷ events) = times_refreshed view r events

module _ (T : Type 0) where
  -- each call that sends a refresh token is a sending of the fleet, so that its laws hold of them
  abbrev pub EachRefreshIsOfTheFleet : Type 0
  EachRefreshIsOfTheFleet =
      (view : T
      → Token) (start : Token) (events : List (FleetEvent T)) (i : ℕ) (token : T) (given : Option T) →
      IsFleet view start events →
      Contains events (Made i (Refresh token given)) →
      (version : ℕ) × Contains (all_events (fleet_of start) (happenings_of view events)) (Sent i version (view token))

  -- so the calls of all renewals send a refresh token that came to be stored once at most once
  abbrev pub EachRefreshTokenIsSentOnce : Type 0
  EachRefreshTokenIsSentOnce =
      (view : T → Token) (start : Token) (events : List (FleetEvent T)) (r : List ℕ) →
      IsFleet view start events →
      has_refresh r start + times_stored r (all_events (fleet_of start) (happenings_of view events)) ≤ 1 →
      times_refreshed view r events ≤ 1
