-- Many renewals over one store, each a machine with knowledge of its own: what happens to them, and which
-- events that makes.
use Rattle.std.specs.Prelude.{◌≡◌, ℕ, ◌+◌, ◌≤◌, List, [], ◌∷◌, ◌++◌, Option, Some, None, slice_index_or}
use Rattle.std.specs.List.{Contains}
use Rattle.oauth2_shared_token.specs.declared.renewal.Phase.{Phase}
use Rattle.oauth2_shared_token.specs.declared.renewal.Phase.TheVariants as phase
use Rattle.oauth2_shared_token.specs.declared.renewal.Told.{Told}
use Rattle.oauth2_shared_token.specs.declared.renewal.Step.{Step}
use Rattle.oauth2_shared_token.specs.declared.renewal.Step.TheVariants as step
use Rattle.oauth2_shared_token.specs.declared.renewal.Turn.{Turn}
use Rattle.oauth2_shared_token.specs.State.{Token, Stored, at_rest, in_use, empty, put, begin}
use Rattle.oauth2_shared_token.specs.Event.{SharedEvent, Marked, Kept, GivenBack, SignedIn, Allowed, LoggedIn}
use Rattle.oauth2_shared_token.specs.Event.{LoggedOut, Fits, WasMarked, WasFree, WasStored}
use Rattle.oauth2_shared_token.specs.Run.{IsRun, at_last, has_refresh, times_sent, times_stored, tokens_stored}
use Rattle.oauth2_shared_token.specs.Renewal.{next_turn, IsSo, events_of}

-- what a renewal asks of the store
pub data Request : Type 0 where
  -- to take its mark on this version, which it read at rest
  ToMark : ℕ → ℕ → Token → Request
  -- to take this token in the place of its mark on this version
  ToKeep : ℕ → ℕ → Token → Request
  -- to take the old token in the place of its mark on this version
  ToReturn : ℕ → ℕ → Token → Request

-- what is stored now, all that ever was, the machine of each renewal, at the place of its name, and all
-- that they asked of the store
pub record Fleet : Type 0 where
  pub store : Stored
  pub past : List Stored
  pub phases : List (Phase Token)
  pub requests : List Request

-- how far the machine of this name is
abbrev pub phase_of : Fleet → ℕ → Phase Token
phase_of f i = slice_index_or f.phases i phase.Looking

-- what happens in a fleet. A machine that stopped or is paused is one to which nothing happens
pub data Happening : Type 0 where
  -- the machine of this name is told this, and takes its next turn
  Turned : ℕ → Told Token → Happening
  -- the store takes a request, which may be late or repeated
  Took : Request → Happening
  -- somebody read this version marked by this renewal and logged in anew, and the store takes that
  SignsIn : ℕ → ℕ → Token → Happening
  -- somebody read this version marked by this renewal and allowed the old token; the store takes it
  Allows : ℕ → ℕ → Token → Happening
  -- somebody read this version at rest or empty and logged in anew, and the store takes that
  LogsIn : ℕ → Token → Happening
  -- somebody read this version and logged out, and the store takes that
  LogsOut : ℕ → Happening

-- when each can happen: a machine may be told whatever is so; the store takes what was ever asked of it,
-- if it has the version
abbrev pub CanOccur : Fleet → Happening → Type 0
CanOccur f (Turned i told) = IsSo f.past i (phase_of f i) told
CanOccur f (Took (ToMark i version token)) =
    Contains f.requests (ToMark i version token) × Fits f.store version
CanOccur f (Took (ToKeep i version new)) =
    Contains f.requests (ToKeep i version new) × Fits f.store (version + 1)
CanOccur f (Took (ToReturn i version token)) =
    Contains f.requests (ToReturn i version token) × Fits f.store (version + 1)
CanOccur f (SignsIn i version new) = WasMarked f.past version i × Fits f.store version
CanOccur f (Allows i version token) =
    Contains f.past (in_use version token i) × Fits f.store version
CanOccur f (LogsIn version new) = WasFree f.past version × Fits f.store version
CanOccur f (LogsOut version) = WasStored f.past version × Fits f.store version

-- the requests of a step
abbrev pub requests_of : ℕ → Step Token → List Request
requests_of i step.Look = []
requests_of i (step.Mark version token) = ToMark i version token ∷ []
requests_of i (step.Send version token) = []
requests_of i (step.Keep version new) = ToKeep i version new ∷ []
requests_of i (step.GiveBack version token) = ToReturn i version token ∷ []
requests_of i step.Repeat = []
requests_of i (step.InUse other token) = []
requests_of i step.LoggedOut = []
requests_of i step.End = []

-- the fleet after the machine of this name took this turn
abbrev pub after_turn : Fleet → ℕ → Turn Token → Fleet
after_turn f i turn =
    record {
      store = f.store;
      past = f.past;
      phases = put phase.Looking f.phases i turn.phase;
      requests = f.requests ++ requests_of i turn.step;
    }

-- the fleet after the store took this value
abbrev pub after_taking : Fleet → Stored → Fleet
after_taking f new = record {
  store = new;
  past = f.past ++ new ∷ [];
  phases = f.phases;
  requests = f.requests;
}

-- the fleet after this happened
abbrev pub later : Fleet → Happening → Fleet
later f (Turned i told) = after_turn f i (next_turn i (phase_of f i) told)
later f (Took (ToMark i version token)) = after_taking f (in_use (version + 1) token i)
later f (Took (ToKeep i version new)) = after_taking f (at_rest (version + 2) new)
later f (Took (ToReturn i version token)) = after_taking f (at_rest (version + 2) token)
later f (SignsIn i version new) = after_taking f (at_rest (version + 1) new)
later f (Allows i version token) = after_taking f (at_rest (version + 1) token)
later f (LogsIn version new) = after_taking f (at_rest (version + 1) new)
later f (LogsOut version) = after_taking f (empty (version + 1))

-- the events that it makes
abbrev pub events_in : Fleet → Happening → List SharedEvent
events_in f (Turned i told) = events_of i (next_turn i (phase_of f i) told).step
events_in f (Took (ToMark i version token)) = Marked i version token ∷ []
events_in f (Took (ToKeep i version new)) = Kept i version new ∷ []
events_in f (Took (ToReturn i version token)) = GivenBack i version token ∷ []
events_in f (SignsIn i version new) = SignedIn i version new ∷ []
events_in f (Allows i version token) = Allowed i version token ∷ []
events_in f (LogsIn version new) = LoggedIn version new ∷ []
events_in f (LogsOut version) = LoggedOut version ∷ []

-- a token is stored, and no machine has begun
abbrev pub fleet_of : Token → Fleet
fleet_of token = record {
  store = at_rest 0 token;
  past = at_rest 0 token ∷ [];
  phases = [];
  requests = [];
}

-- whatever happens can happen when its turn comes
abbrev pub IsFleetRun : Fleet → List Happening → Type 0
IsFleetRun f [] = Unit {0}
IsFleetRun f (happening ∷ rest) = CanOccur f happening × IsFleetRun (later f happening) rest

-- the fleet after all of this happened
abbrev pub fleet_at_last : Fleet → List Happening → Fleet
fleet_at_last f [] = f
fleet_at_last f (happening ∷ rest) = fleet_at_last (later f happening) rest

-- all the events that it makes
abbrev pub all_events : Fleet → List Happening → List SharedEvent
all_events f [] = []
all_events f (happening ∷ rest) = events_in f happening ++ all_events (later f happening) rest

-- whatever happens in a fleet, its events are a finished list of events, so that all laws hold of them,
-- and both leave the same value in the store
abbrev pub EachFleetRuns : Type 0
EachFleetRuns =
    (start : Token) (happenings : List Happening) →
    IsFleetRun (fleet_of start) happenings →
    let events = all_events (fleet_of start) happenings in
    IsRun (begin start) events
    × ((at_last (begin start) events).store ≡ (fleet_at_last (fleet_of start) happenings).store)

-- so whatever happens in a fleet, its machines send a refresh token that came to be stored once at most
-- once
abbrev pub EachFleetSendsOnce : Type 0
EachFleetSendsOnce =
    (start : Token) (happenings : List Happening) (r : List ℕ) →
    IsFleetRun (fleet_of start) happenings →
    let events = all_events (fleet_of start) happenings in
    has_refresh r start + times_stored r events ≤ 1 → times_sent r events ≤ 1

-- the token that a step hands out
abbrev pub handed_out : Step Token → Option Token
handed_out step.Look = None
handed_out (step.Mark version token) = None
handed_out (step.Send version token) = None
handed_out (step.Keep version new) = None
handed_out (step.GiveBack version token) = None
handed_out step.Repeat = None
handed_out (step.InUse other token) = Some token
handed_out step.LoggedOut = None
handed_out step.End = None

-- each token that a machine hands out, whenever that is, came to be stored before
abbrev pub EachHandedOutWasStored : Type 0
EachHandedOutWasStored =
    (start : Token) (happenings : List Happening) (i : ℕ) (told : Told Token) (token : Token) →
    IsFleetRun (fleet_of start) happenings →
    let now = fleet_at_last (fleet_of start) happenings in
    CanOccur now (Turned i told) →
    handed_out (next_turn i (phase_of now i) told).step ≡ Some token →
    Contains (start ∷ tokens_stored (all_events (fleet_of start) happenings)) token
