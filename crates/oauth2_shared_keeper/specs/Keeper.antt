-- What a keeper does in its rounds, and what it tells.
use Rattle.std.specs.Prelude.{◌≡◌, ◌⊎◌, ℕ, ◌-◌, ◌≤◌, ℤ, Bool, true, false, List, [], ◌∷◌, ◌++◌, map, Option, Some, None, Result}
use Rattle.std.specs.Duration.{as_nanos}
use Rattle.std.specs.declared.time.Duration.{Duration}
use Rattle.jiff.specs.Types.{Timestamp}
use Rattle.oauth2_shared_token.specs.declared.renewal.Content.{Content}
use Rattle.oauth2_shared_token.specs.declared.renewal.Content.TheVariants.{AtRest, Marked, Empty}
use Rattle.oauth2_shared_token.specs.declared.renewal.StoredValue.{StoredValue}
use Rattle.oauth2_shared_keeper.specs.declared.replaced.Replaced.{Replaced}
use Rattle.oauth2_shared_keeper.specs.declared.held.Held.{Held}
use Rattle.oauth2_shared_keeper.specs.declared.held.Held.TheVariants as held
use Rattle.oauth2_shared_keeper.specs.declared.outcome.Outcome.{Outcome}
use Rattle.oauth2_shared_keeper.specs.declared.outcome.Outcome.TheVariants.{Ends, Waits}
use Rattle.oauth2_shared_keeper.specs.declared.renewed.Renewed.{Renewed}
use Rattle.oauth2_shared_keeper.specs.declared.renewed.Renewed.TheVariants as renewed
use Rattle.oauth2_shared_keeper.specs.declared.settings.KeeperSettings.{KeeperSettings}
use Rattle.oauth2_shared_keeper.specs.Call.{Call, Load, StoreLeads}
use Rattle.oauth2_shared_keeper.specs.Renewal.{IsRenewal}

-- a token at rest is handed out if it is good, and else renewed
abbrev pub at_rest_if : {T E : Type 0} → Bool → T → Option (Outcome T E)
at_rest_if true token = Some (Ends (held.Good token))
at_rest_if false token = None

-- a token that another renewal uses is handed out if it is good, and else the keeper waits
abbrev pub marked_if : {T E : Type 0} → Bool → ℕ → ℕ → T → Outcome T E
marked_if true renewal version token = Ends (held.Old renewal version token)
marked_if false renewal version token = Waits (held.Unfinished renewal version token)

-- what the end of the renewal of this name means to the keeper
abbrev pub after_renewal : {T E : Type 0} → ℕ → Renewed T E → Outcome T E
after_renewal name (renewed.Kept new) = Ends (held.Good new)
after_renewal name (renewed.Unkept version new) = Ends (held.Unkept name version new)
after_renewal name (renewed.InUse other token) = Waits (held.InUse other token)
after_renewal name renewed.LoggedOut = Ends held.LoggedOut
after_renewal name renewed.Lost = Waits held.Lost
after_renewal name (renewed.Unanswered version token error) =
    Ends (held.Unanswered name version token error)
after_renewal name (renewed.Unclear version token) = Ends (held.Unclear name version token)
after_renewal name renewed.Unread = Waits held.Unread
after_renewal name (renewed.NoNextVersion token) = Ends (held.NoNextVersion token)

-- a round
pub data Round (T E : Type 0) : Type 0 where
  -- its load told nothing
  Blind : Round T E
  -- its load showed this, and the clock read so
  Seen : StoredValue T → Timestamp → Round T E
  -- its load showed this, at this time; then the renewal of this name made these calls and ended so
  Renewing : StoredValue T → Timestamp → ℕ → List (Call T) → Renewed T E → Round T E

module _ {T E : Type 0} (is_good : T → ℤ → ℕ → Bool) (settings : KeeperSettings) where
  -- what is to be done at this moment with what this version holds; nothing says that its token is renewed
  abbrev pub content_verdict : Timestamp → ℕ → Content T → Option (Outcome T E)
  content_verdict now version (AtRest token) =
      at_rest_if (is_good token now.nanosecond (as_nanos settings.margin)) token
  content_verdict now version (Marked token renewal) =
      Some
      (marked_if (is_good token now.nanosecond (as_nanos settings.old_margin)) renewal version token)
  content_verdict now version Empty = Some (Ends held.LoggedOut)

  -- what is to be done at this moment with what a load showed
  abbrev pub verdict : Timestamp → StoredValue T → Option (Outcome T E)
  verdict now p = content_verdict now p.version p.content

  -- a round ends so
  abbrev pub IsRound : Round T E → Outcome T E → Type 0
  IsRound Blind outcome = outcome ≡ Waits held.Unread
  IsRound (Seen p now) outcome = verdict now p ≡ Some outcome
  IsRound (Renewing p now name calls end) outcome =
      (verdict now p ≡ None)
      × IsRenewal name settings.limits calls end
      × (outcome ≡ after_renewal name end)

  -- a call with so many rounds left makes these and tells this: each round but the last waits, and the last
  -- one ends the call, or none is left after it
  abbrev pub Holds : ℕ → List (Round T E) → Held T E → Type 0
  Holds left [] result = (left ≡ 0) × (result ≡ held.Unread)
  Holds left (round ∷ []) result =
      (1 ≤ left) × (IsRound round (Ends result) ⊎ ((left ≡ 1) × IsRound round (Waits result)))
  Holds left (round ∷ next ∷ rounds) result =
      ((seen : Held T E) × IsRound round (Waits seen)) × Holds (left - 1) (next ∷ rounds) result

  -- the rounds of a whole call, and what it tells
  abbrev pub IsHeld : List (Round T E) → Held T E → Type 0
  IsHeld rounds result = Holds settings.rounds rounds result

-- the calls of a round to its store and its client
abbrev pub calls_of : {T E : Type 0} → Round T E → List (Call T)
calls_of Blind = Load None ∷ []
calls_of (Seen p now) = Load (Some p) ∷ []
calls_of (Renewing p now name calls end) = Load (Some p) ∷ calls

-- those of all rounds, in order
abbrev pub calls_in : {T E : Type 0} → List (Round T E) → List (Call T)
calls_in [] = []
calls_in (round ∷ rounds) = calls_of round ++ calls_in rounds

-- a call to the world: it read the clock so, slept so long, or drew this name
pub data WorldCall : Type 0 where
  Reading : Timestamp → WorldCall
  Slept : Duration → WorldCall
  Drawn : ℕ → WorldCall

-- the calls of a round to its world
abbrev pub events_of : {T E : Type 0} → Round T E → List WorldCall
events_of Blind = []
events_of (Seen p now) = Reading now ∷ []
events_of (Renewing p now name calls end) = Reading now ∷ Drawn name ∷ []

-- those of all rounds, in order: a sleep lies between two rounds
abbrev pub events_in : {T E : Type 0} → Duration → List (Round T E) → List WorldCall
events_in wait [] = []
events_in wait (round ∷ []) = events_of round
events_in wait (round ∷ next ∷ rounds) =
    events_of round ++ Slept wait ∷ events_in wait (next ∷ rounds)

-- exactly these calls, in order, can lead the world from the first state to the last
abbrev pub WorldLeads : {W : Type 0} → (W → Timestamp → W → Type 0) → (W → Duration → W → Type 0)
    → (W → ℕ → W → Type 0)
    → W → List WorldCall → W → Type 0
WorldLeads {W} reads sleeps draws w [] last = w ≡ last
WorldLeads {W} reads sleeps draws w (Reading now ∷ events) last =
    (next : W) × reads w now next × WorldLeads reads sleeps draws next events last
WorldLeads {W} reads sleeps draws w (Slept wait ∷ events) last =
    (next : W) × sleeps w wait next × WorldLeads reads sleeps draws next events last
WorldLeads {W} reads sleeps draws w (Drawn name ∷ events) last =
    (next : W) × draws w name next × WorldLeads reads sleeps draws next events last

-- a call of a keeper: to its store or its client, or to its world
pub data KeeperCall (T : Type 0) : Type 0 where
  Asked : Call T → KeeperCall T
  Lived : WorldCall → KeeperCall T

-- the calls of a round, in order: it loads, then reads the clock, then draws a name and renews
abbrev pub keeper_calls_of : {T E : Type 0} → Round T E → List (KeeperCall T)
keeper_calls_of Blind = Asked (Load None) ∷ []
keeper_calls_of (Seen p now) = Asked (Load (Some p)) ∷ Lived (Reading now) ∷ []
keeper_calls_of (Renewing p now name calls end) =
    Asked (Load (Some p)) ∷ Lived (Reading now) ∷ Lived (Drawn name) ∷ map (λ call. Asked call) calls

-- those of all rounds, in order: a sleep lies between two rounds
abbrev pub keeper_calls_in : {T E : Type 0} → Duration → List (Round T E) → List (KeeperCall T)
keeper_calls_in wait [] = []
keeper_calls_in wait (round ∷ []) = keeper_calls_of round
keeper_calls_in wait (round ∷ next ∷ rounds) =
    keeper_calls_of round ++ Lived (Slept wait) ∷ keeper_calls_in wait (next ∷ rounds)

-- exactly the calls to the store and to the world among these, in order, can lead the two, which are one state,
-- from the first state to the last
abbrev pub TimedLeads : {T S SE : Type 0} → (S → List ℕ → Result (StoredValue T) SE → S → Type 0)
    → (S → List ℕ → ℕ → Content T → Result Replaced SE → S → Type 0)
    → (S → Timestamp → S → Type 0) → (S → Duration → S → Type 0) → (S → ℕ → S → Type 0)
    → List ℕ → S → List (KeeperCall T) → S → Type 0
TimedLeads {T} {S} {SE} loads replaces reads sleeps draws name s [] last = s ≡ last
TimedLeads {T} {S} {SE} loads replaces reads sleeps draws name s (Asked call ∷ calls) last =
    (next : S) × StoreLeads loads replaces name s (call ∷ []) next
    × TimedLeads loads replaces reads sleeps draws name next calls last
TimedLeads {T} {S} {SE} loads replaces reads sleeps draws name s (Lived call ∷ calls) last =
    (next : S) × WorldLeads reads sleeps draws s (call ∷ []) next
    × TimedLeads loads replaces reads sleeps draws name next calls last

-- the token and the error, if a refresh token was sent and there is no new token
abbrev pub IfNoAnswer : {T E : Type 0} → Held T E → (T → E → Type 0) → Type 0
IfNoAnswer (held.Good token) P = Unit {0}
IfNoAnswer (held.Old renewal version token) P = Unit {0}
IfNoAnswer held.LoggedOut P = Unit {0}
IfNoAnswer (held.Unkept renewal version token) P = Unit {0}
IfNoAnswer (held.Unanswered renewal version token error) P = P token error
IfNoAnswer (held.Unclear renewal version token) P = Unit {0}
IfNoAnswer (held.NoNextVersion token) P = Unit {0}
IfNoAnswer (held.Unfinished renewal version token) P = Unit {0}
IfNoAnswer (held.InUse renewal token) P = Unit {0}
IfNoAnswer held.Lost P = Unit {0}
IfNoAnswer held.Unread P = Unit {0}
