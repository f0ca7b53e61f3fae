-- The laws of a keeper.
use Rattle.std.specs.Prelude.{◌≡◌, ℕ, ◌+◌, ◌-◌, ◌*◌, ◌≤◌, ℤ, pos, ◌+ℤ◌, ◌≤ℤ◌, Bool, true, false, IsTrue, List, [], ◌∷◌, ◌++◌, Option, Some, None}
use Rattle.std.specs.Duration.{as_nanos}
use Rattle.std.specs.List.{Contains}
use Rattle.std.specs.declared.time.Duration.{Duration}
use Rattle.jiff.specs.Types.{Timestamp}
use Rattle.oauth2_shared_token.specs.declared.renewal.Content.TheVariants.{AtRest, Marked}
use Rattle.oauth2_shared_token.specs.declared.renewal.StoredValue.{StoredValue}
use Rattle.oauth2_shared_keeper.specs.declared.held.Held.{Held}
use Rattle.oauth2_shared_keeper.specs.declared.held.Held.TheVariants as held
use Rattle.oauth2_shared_keeper.specs.declared.renewed.Renewed.{Renewed}
use Rattle.oauth2_shared_keeper.specs.declared.settings.KeeperSettings.{KeeperSettings}
use Rattle.oauth2_shared_keeper.specs.Call.{Call, Replace, Refresh, refreshes_in}
use Rattle.oauth2_shared_keeper.specs.Renewal.{IsRenewal}
use Rattle.oauth2_shared_keeper.specs.Keeper.{Round, Blind, Seen, Renewing, IsHeld, calls_in, WorldCall, Reading, Slept, Drawn, events_in, KeeperCall, Asked, Lived, keeper_calls_in}

-- how many of these rounds have a renewal
abbrev pub renewals_in : {T E : Type 0} → List (Round T E) → ℕ
renewals_in [] = 0
renewals_in (Blind ∷ rounds) = renewals_in rounds
renewals_in (Seen p now ∷ rounds) = renewals_in rounds
renewals_in (Renewing p now name calls end ∷ rounds) = 1 + renewals_in rounds

-- the sum of the sleeps among these calls, in nanoseconds
abbrev pub slept_in : List WorldCall → ℕ
slept_in [] = 0
slept_in (Reading now ∷ events) = slept_in events
slept_in (Slept wait ∷ events) = as_nanos wait + slept_in events
slept_in (Drawn name ∷ events) = slept_in events

-- the calls to the store and the client among these
abbrev pub asked_in : {T : Type 0} → List (KeeperCall T) → List (Call T)
asked_in [] = []
asked_in (Asked call ∷ calls) = call ∷ asked_in calls
asked_in (Lived call ∷ calls) = asked_in calls

-- the calls to the world among these
abbrev pub lived_in : {T : Type 0} → List (KeeperCall T) → List WorldCall
lived_in [] = []
lived_in (Asked call ∷ calls) = lived_in calls
lived_in (Lived call ∷ calls) = call ∷ lived_in calls

-- the clock is never set back, and no sleep is too short: each reading is at least the one before
-- it (the first: at least `from`) and all sleeps between the two
abbrev pub GoesOn : ℤ → List WorldCall → Type 0
GoesOn from [] = Unit {0}
GoesOn from (Reading now ∷ events) = (from ≤ℤ now.nanosecond) × GoesOn now.nanosecond events
GoesOn from (Slept wait ∷ events) = GoesOn (from +ℤ pos (as_nanos wait)) events
GoesOn from (Drawn name ∷ events) = GoesOn from events

-- the token that a caller is handed as a good or a new one
abbrev pub token_in : {T E : Type 0} → Held T E → Option T
token_in (held.Good token) = Some token
token_in (held.Old renewal version token) = None
token_in held.LoggedOut = None
token_in (held.Unkept renewal version new) = Some new
token_in (held.Unanswered renewal version token error) = None
token_in (held.Unclear renewal version token) = None
token_in (held.NoNextVersion token) = None
token_in (held.Unfinished renewal version token) = None
token_in (held.InUse renewal token) = None
token_in held.Lost = None
token_in held.Unread = None

module _ {T E : Type 0} (is_good : T → ℤ → ℕ → Bool) (settings : KeeperSettings) where
  -- a load showed this token at rest, and it was good when the clock was read; or the server gave it in the
  -- renewal of this round, and the store said that it keeps it
  abbrev pub HandsOut : Round T E → T → Type 0
  HandsOut Blind token = ⊥
  HandsOut (Seen p now) token =
      (p.content ≡ AtRest token) × IsTrue (is_good token now.nanosecond (as_nanos settings.margin))
  HandsOut (Renewing p now name calls end) token =
      ((old : T) × Contains calls (Refresh old (Some token))) × ((version : ℕ) × Contains calls (Replace version (AtRest token) true))

module _ (T E : Type 0) where
  -- the calls of a keeper, in order, are those of its rounds to the store and the client, and those to the world,
  -- of which the laws below speak
  abbrev pub EachCallIsOfItsRounds : Type 0
  EachCallIsOfItsRounds =
      (wait : Duration) (rounds : List (Round T E)) →
      (asked_in (keeper_calls_in wait rounds) ≡ calls_in rounds) × (lived_in (keeper_calls_in wait rounds) ≡ events_in wait rounds)

  -- a call sends one refresh token at most, and begins at most one renewal a round
  abbrev pub EachCallSendsOnce : Type 0
  EachCallSendsOnce =
      (is_good : T → ℤ → ℕ
      → Bool) (settings : KeeperSettings) (rounds : List (Round T E)) (result : Held T E) →
      IsHeld is_good settings rounds result →
      (refreshes_in (calls_in rounds) ≤ 1) × (renewals_in rounds ≤ settings.rounds)

  -- it sends each in a renewal of a name that it drew
  abbrev pub EachSendingIsOfARenewal : Type 0
  EachSendingIsOfARenewal =
      (is_good : T → ℤ → ℕ
      → Bool) (settings : KeeperSettings) (rounds : List (Round T E)) (result : Held T E) (token : T) (given : Option T) →
      IsHeld is_good settings rounds result →
      Contains (calls_in rounds) (Refresh token given) →
      (name : ℕ) × (calls : List (Call T)) × (end : Renewed T E) × Contains (events_in settings.wait rounds) (Drawn name)
      × IsRenewal name settings.limits calls end × Contains calls (Refresh token given)

  -- a token that is handed out as good was good, or was just given and is kept
  abbrev pub EachGoodIsGood : Type 0
  EachGoodIsGood =
      (is_good : T → ℤ → ℕ
      → Bool) (settings : KeeperSettings) (rounds : List (Round T E)) (token : T) →
      IsHeld is_good settings rounds (held.Good token) →
      (before : List (Round T E)) × (last : Round T E) × (rounds ≡ before ++ last ∷ []) × HandsOut is_good settings last token

  -- a token that is handed out as an old one was marked by that renewal, under that version, and was good still
  -- when the clock was read
  abbrev pub EachOldIsGood : Type 0
  EachOldIsGood =
      (is_good : T → ℤ → ℕ
      → Bool) (settings : KeeperSettings) (rounds : List (Round T E)) (renewal version : ℕ) (token : T) →
      IsHeld is_good settings rounds (held.Old renewal version token) →
      (before : List (Round T E)) × (p : StoredValue T) × (now : Timestamp) × (rounds ≡ before ++ Seen p now ∷ [])
      × (p.version ≡ version) × (p.content ≡ Marked token renewal)
      × IsTrue (is_good token now.nanosecond (as_nanos settings.old_margin))

  -- a token that is told as unfinished was marked by that renewal, under that version, and not good any more,
  -- when the clock was read for the last time; that was after all the sleeps of all the rounds
  abbrev pub EachUnfinishedWasWaitedFor : Type 0
  EachUnfinishedWasWaitedFor =
      (is_good : T → ℤ → ℕ
      → Bool) (settings : KeeperSettings) (rounds : List (Round T E)) (renewal version : ℕ) (token : T) →
      IsHeld is_good settings rounds (held.Unfinished renewal version token) →
      (before : List (Round T E)) × (p : StoredValue T) × (now : Timestamp) × (rounds ≡ before ++ Seen p now ∷ [])
      × (p.version ≡ version) × (p.content ≡ Marked token renewal)
      × (is_good token now.nanosecond (as_nanos settings.old_margin) ≡ false)
      × ((from : ℤ) → GoesOn from (events_in settings.wait rounds) →
      (from +ℤ pos ((settings.rounds - 1) * as_nanos settings.wait)) ≤ℤ now.nanosecond)

  -- a call sleeps once less than it may look, at most
  abbrev pub EachCallSleepsLittle : Type 0
  EachCallSleepsLittle =
      (is_good : T → ℤ → ℕ
      → Bool) (settings : KeeperSettings) (rounds : List (Round T E)) (result : Held T E) →
      IsHeld is_good settings rounds result →
      slept_in (events_in settings.wait rounds) ≤ (settings.rounds - 1) * as_nanos settings.wait

  -- a token that the server gave in any round is handed to the caller
  abbrev pub NoGivenIsLost : Type 0
  NoGivenIsLost =
      (is_good : T → ℤ → ℕ
      → Bool) (settings : KeeperSettings) (rounds : List (Round T E)) (token new : T) (result : Held T E) →
      IsHeld is_good settings rounds result →
      Contains (calls_in rounds) (Refresh token (Some new)) →
      token_in result ≡ Some new
