-- The calls that a poll makes to its world, in order, and what the relations of the world allow.
use Rattle.std.specs.Prelude.{◌≡◌, Bool, true, false, List, [], ◌∷◌, Option, Some, Result}
use Rattle.std.specs.declared.time.Duration.{Duration}
use Rattle.jiff.specs.Types.{Timestamp}
use Rattle.oauth2_wire.specs.Request.{HttpRequest}
use Rattle.oauth2_wire.specs.Reply.{HttpResponse}

-- a call: a reading of the clock, a request with its result, or a sleep; `RE` is the error of the
-- client
pub data PollCall (RE : Type 0) : Type 0 where
  Reading : Timestamp → PollCall RE
  Sent : HttpRequest → Result HttpResponse RE → PollCall RE
  Slept : Duration → PollCall RE

-- exactly these calls, in order, can lead the world from `w` to `v`; each is one that its relation
-- allows
abbrev pub Leads : {W RE : Type 0} → (W → Timestamp → W → Type 0)
    → (W → HttpRequest → Result HttpResponse RE → W → Type 0) → (W → Duration → W → Type 0)
    → W → List (PollCall RE) → W → Type 0
Leads {W} reads sends sleeps w [] v = w ≡ v
Leads {W} reads sends sleeps w (Reading t ∷ e) v =
    (u : W) × reads w t u × Leads reads sends sleeps u e v
Leads {W} reads sends sleeps w (Sent r a ∷ e) v =
    (u : W) × sends w r a u × Leads reads sends sleeps u e v
Leads {W} reads sends sleeps w (Slept d ∷ e) v =
    (u : W) × sleeps w d u × Leads reads sends sleeps u e v

-- exactly the readings among these events, in order, can lead the clock from the first state to the
-- last
abbrev pub ClockLeads : {T RE : Type 0} → (T → Timestamp → T → Type 0) → T → List (PollCall RE) → T
    → Type 0
ClockLeads {T} ticks clock [] last = clock ≡ last
ClockLeads {T} ticks clock (Reading t ∷ e) last =
    (next : T) × ticks clock t next × ClockLeads ticks next e last
ClockLeads {T} ticks clock (Sent r a ∷ e) last = ClockLeads ticks clock e last
ClockLeads {T} ticks clock (Slept d ∷ e) last = ClockLeads ticks clock e last

-- exactly the requests among these events, in order, can lead the client from the first state to
-- the last
abbrev pub ClientLeads : {C RE : Type 0} → (C → HttpRequest → Result HttpResponse RE → C → Type 0)
    → C → List (PollCall RE) → C → Type 0
ClientLeads {C} step client [] last = client ≡ last
ClientLeads {C} step client (Reading t ∷ e) last = ClientLeads step client e last
ClientLeads {C} step client (Sent r a ∷ e) last =
    (next : C) × step client r a next × ClientLeads step next e last
ClientLeads {C} step client (Slept d ∷ e) last = ClientLeads step client e last

-- exactly the sleeps among these events, in order, can lead the sleep function from the first state
-- to the last
abbrev pub SleepLeads : {S RE : Type 0} → (S → Duration → S → Type 0) → S → List (PollCall RE) → S
    → Type 0
SleepLeads {S} sleeps sleep [] last = sleep ≡ last
SleepLeads {S} sleeps sleep (Reading t ∷ e) last = SleepLeads sleeps sleep e last
SleepLeads {S} sleeps sleep (Sent r a ∷ e) last = SleepLeads sleeps sleep e last
SleepLeads {S} sleeps sleep (Slept d ∷ e) last =
    (next : S) × sleeps sleep d next × SleepLeads sleeps next e last

-- `IsRequest` holds of each request among these events
abbrev pub EachRequest : {RE : Type 0} → (HttpRequest → Type 0) → List (PollCall RE) → Type 0
EachRequest IsRequest [] = Unit {0}
EachRequest IsRequest (Reading t ∷ e) = EachRequest IsRequest e
EachRequest IsRequest (Sent r a ∷ e) = IsRequest r × EachRequest IsRequest e
EachRequest IsRequest (Slept d ∷ e) = EachRequest IsRequest e

-- at least one request was sent
abbrev pub has_request : {RE : Type 0} → List (PollCall RE) → Bool
has_request [] = false
has_request (Reading t ∷ e) = has_request e
has_request (Sent r a ∷ e) = true
has_request (Slept d ∷ e) = has_request e

-- the result of the last request, or `before` if there was none
abbrev pub last_reply : {RE : Type 0} → Option (Result HttpResponse RE) → List (PollCall RE)
    → Option (Result HttpResponse RE)
last_reply before [] = before
last_reply before (Reading t ∷ e) = last_reply before e
last_reply before (Sent r a ∷ e) = last_reply (Some a) e
last_reply before (Slept d ∷ e) = last_reply before e
