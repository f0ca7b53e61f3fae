-- In which round a poll ends, and its events until then, as determined by its clock readings and
-- its answers (RFC 8628, 3.4 and 3.5). Rounds are numbered from one: reading 0 is the start of the
-- poll, and reading i and answer i belong to round i.
use Rattle.std.specs.Prelude.{◌≡◌, ◌≢◌, ℕ, zero, suc, ◌-◌, ◌<◌, ◌≤◌, Bool, is_some, ℤ, pos, ◌+ℤ◌, ◌<ℤ◌, List, [], ◌∷◌, ◌++◌, take, slice_get, Option, Some, None}
use Rattle.std.specs.List.{fold, list_all}
use Rattle.std.specs.Option.{option_map}
use Rattle.jiff.specs.Words.{IsTimestampNanos}
use Rattle.oauth2_poll.specs.declared.device_poll.PollAnswer.{PollAnswer}
use Rattle.oauth2_poll.specs.declared.device_poll.PollAnswer.TheVariants.{Deciding}
use Rattle.oauth2_poll.specs.Step.{TimeoutFits, next_interval}

-- the input of a poll: the timeout (`expires_in`) and the interval of RFC 8628, 3.2, the cap of the
-- back-off, the limit of requests, the clock readings and the answers; lengths in nanoseconds,
-- moments in nanoseconds since 1970
pub record PollInput : Type 0 where
  pub timeout : ℕ
  pub interval : ℕ
  pub cap : ℕ
  pub max_polls : ℕ
  pub readings : List ℤ
  pub answers : List PollAnswer

-- an event of a poll: it reads the clock (nanoseconds since 1970), sends a request to the token
-- endpoint, gets an answer, or sleeps (nanoseconds)
pub data TraceEvent : Type 0 where
  Reading : ℤ → TraceEvent
  Asked : TraceEvent
  Answered : PollAnswer → TraceEvent
  Slept : ℕ → TraceEvent

-- the answer of round i, if there is one
abbrev pub answer_in_round : List PollAnswer → ℕ → Option PollAnswer
answer_in_round answers zero = None
answer_in_round answers (suc i) = slice_get answers i

-- the deadline, start plus timeout, is in the range of a `Timestamp`
abbrev pub DeadlineInRange : PollInput → Type 0
DeadlineInRange p = (start : ℤ) → slice_get p.readings 0 ≡ Some start → IsTimestampNanos (start +ℤ pos p.timeout)

-- the reading of round i is strictly after the deadline
pub record IsLate (p : PollInput) (i : ℕ) : Type 0 where
  pub start : ℤ
  pub moment : ℤ
  pub first : slice_get p.readings 0 ≡ Some start
  pub here : slice_get p.readings i ≡ Some moment
  pub after : (start +ℤ pos p.timeout) <ℤ moment

-- the answer of round i decides the poll: not a failed call, `authorization_pending` or `slow_down`
abbrev pub Decides : PollInput → ℕ → Type 0
Decides p i = answer_in_round p.answers i ≡ Some Deciding

-- the poll goes on after round i: it isn't late, decided or at its limit
pub record GoesOn (p : PollInput) (i : ℕ) : Type 0 where
  pub in_time : ¬ (IsLate p i)
  pub open_answer : ¬ (Decides p i)
  pub below : i ≢ p.max_polls

-- round n is reached: no earlier round ends the poll
pub record IsReached (p : PollInput) (n : ℕ) : Type 0 where
  pub fits : TimeoutFits p.timeout
  pub in_range : DeadlineInRange p
  pub from_one : 1 ≤ n
  pub earlier : (i : ℕ) → 1 ≤ i → i < n → GoesOn p i

-- how a poll ends, and in which round if it has rounds
pub data Ending : Type 0 where
  TooLong : Ending
  OutOfRange : Ending
  Late : ℕ → Ending
  Decided : ℕ → Ending
  Limited : ℕ → Ending

-- the poll ends in the first round in which it is late, decided or at its limit; if several hold in
-- that round, late counts before decided, and decided before the limit
abbrev pub IsEnding : PollInput → Ending → Type 0
IsEnding p TooLong = ¬ (TimeoutFits p.timeout)
IsEnding p OutOfRange = TimeoutFits p.timeout × ((start : ℤ) × (slice_get p.readings 0 ≡ Some start) × ¬ (IsTimestampNanos (start +ℤ pos p.timeout)))
IsEnding p (Late n) = IsReached p n × IsLate p n
IsEnding p (Decided n) = IsReached p n × (¬ (IsLate p n)) × Decides p n
IsEnding p (Limited n) = IsReached p n × (¬ (IsLate p n)) × (¬ (Decides p n)) × (n ≡ p.max_polls)

-- the interval after round i, in nanoseconds: each answer so far was applied to it
abbrev pub interval_after : PollInput → ℕ → ℕ
interval_after p i = fold (next_interval p.cap) p.interval (take i p.answers)

-- the clock reading of round i as an event, if there is one
abbrev pub reading_at : PollInput → ℕ → Option TraceEvent
reading_at p i = option_map Reading (slice_get p.readings i)

-- the answer of round i as an event, if there is one
abbrev pub answer_at : PollInput → ℕ → Option TraceEvent
answer_at p i = option_map Answered (answer_in_round p.answers i)

-- the events of a round that is not the last; an event without input is `None`
abbrev pub round : PollInput → ℕ → List (Option TraceEvent)
round p i = reading_at p i ∷ Some Asked ∷ answer_at p i ∷ Some (Slept (interval_after p i)) ∷ []

-- the events of rounds 1 to n
abbrev pub rounds : PollInput → ℕ → List (Option TraceEvent)
rounds p zero = []
rounds p (suc n) = rounds p n ++ round p (suc n)

-- all events of a poll with this ending: the last round has no sleep, and neither request nor
-- answer if its reading is late
abbrev pub poll_events : PollInput → Ending → List (Option TraceEvent)
poll_events p TooLong = []
poll_events p OutOfRange = reading_at p 0 ∷ []
poll_events p (Late n) = reading_at p 0 ∷ (rounds p (n - 1) ++ reading_at p n ∷ [])
poll_events p (Decided n) = reading_at p 0 ∷ (rounds p (n - 1) ++ reading_at p n ∷ Some Asked ∷ answer_at p n ∷ [])
poll_events p (Limited n) = reading_at p 0 ∷ (rounds p (n - 1) ++ reading_at p n ∷ Some Asked ∷ answer_at p n ∷ [])

-- the elements before the first `None`
abbrev pub until_missing : {A : Type 0} → List (Option A) → List A
until_missing [] = []
until_missing (None ∷ xs) = []
until_missing (Some x ∷ xs) = x ∷ until_missing xs

-- no element is `None`
abbrev pub is_whole : {A : Type 0} → List (Option A) → Bool
is_whole {A} xs = list_all is_some xs

-- the clock readings in a list of events, in nanoseconds since 1970
abbrev pub readings_in : List TraceEvent → List ℤ
readings_in [] = []
readings_in (Reading t ∷ events) = t ∷ readings_in events
readings_in (Asked ∷ events) = readings_in events
readings_in (Answered a ∷ events) = readings_in events
readings_in (Slept d ∷ events) = readings_in events

-- the answers in a list of events
abbrev pub answers_in : List TraceEvent → List PollAnswer
answers_in [] = []
answers_in (Reading t ∷ events) = answers_in events
answers_in (Asked ∷ events) = answers_in events
answers_in (Answered a ∷ events) = a ∷ answers_in events
answers_in (Slept d ∷ events) = answers_in events
