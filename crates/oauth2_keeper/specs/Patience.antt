-- A keeper that waits after a failed request before it makes another.
use Rattle.std.specs.Prelude.{◌≡◌, ◌⊎◌, ℕ, ◌≤◌, min, max, ℤ, pos, ◌+ℤ◌, int_lt, int_le, Bool, true, false, not, ◌&&◌, IsTrue, All, List, [], ◌∷◌, map, Option, Some, None, option_map, IsSomeAnd, Result, Ok, Err, bytes_eq, string_bytes, if◌then◌else◌}
use Rattle.jiff_core.specs.declared.timestamp.Timestamp.{Timestamp}
use Rattle.jiff_core.specs.Timestamp.{IsTimestampNanos}
use Rattle.oauth2_wire.specs.declared.content_type.ReplyRule.{ReplyRule}
use Rattle.oauth2_wire.specs.declared.error.RequestTokenError.{RequestTokenError}
use Rattle.oauth2_wire.specs.declared.error.RequestTokenError.TheVariants as token
use Rattle.oauth2_wire.specs.Once.{not_http_text}
use Rattle.oauth2_wire.specs.Request.{HttpRequest, RequestView}
use Rattle.oauth2_wire.specs.Reply.{HttpResponse}
use Rattle.oauth2_keeper.specs.declared.patient_keeper.PatientError.{PatientError}
use Rattle.oauth2_keeper.specs.declared.patient_keeper.PatientError.TheVariants.{Request, Waits, OtherTokenType}
use Rattle.oauth2_keeper.specs.Keeper.{AcceptedToken, Keeper, Given, is_good, is_good_if_any, kept_after, IsOutcome, KeeperCalls, Renews}
use Rattle.oauth2_keeper.specs.Runs.{Call, Runs}
use Rattle.oauth2_keeper.specs.TokenTypes.{is_understood}

-- a keeper; the types of tokens that its caller can use, `None` if any; how long it waits if the server asks for no longer wait, and the greatest wait that a
-- server may ask for; the wait in force, after its last failed request; whether it hands out its
-- token during the wait to the end of its lifetime; and the time from which it waits, in
-- nanoseconds since 1970: that of its last failed request, if none was accepted since, or an
-- earlier one at which a call was held back. Waits are in nanoseconds.
pub record Patient : Type 0 where
  pub keeper : Keeper
  pub token_types : Option (List (List ℕ))
  pub least_wait : ℕ
  pub most_asked_wait : ℕ
  pub wait : ℕ
  pub until_end : Bool
  pub failed_at : Option ℤ

-- whether the caller can use the kept token, if there is one (RFC 6749, 7.1)
abbrev pub is_usable_if_any : Option (List (List ℕ)) → Option AcceptedToken → Bool
is_usable_if_any token_types None = true
is_usable_if_any token_types (Some token) = is_understood token_types token.token_type

-- a keeper without a token that the caller can't use
abbrev pub usable_part : Option (List (List ℕ)) → Keeper → Keeper
usable_part token_types keeper =
    if is_usable_if_any token_types keeper.token then keeper else record keeper { token = None }

-- the same of a patient keeper
abbrev pub without_other_type : Patient → Patient
without_other_type patient =
    record patient { keeper = usable_part patient.token_types patient.keeper }

-- the time from which a call waits: that of the failed request, or the call's own if that is
-- earlier, since the clock was set back
abbrev pub waits_from : ℤ → ℤ → ℤ
waits_from now failed_at = if int_lt now failed_at then now else failed_at

-- whether less than the wait has passed since the failed request, if there was one
abbrev pub is_waiting_for : ℕ → ℤ → Option ℤ → Bool
is_waiting_for wait now None = false
is_waiting_for wait now (Some failed_at) = int_lt now (waits_from now failed_at +ℤ pos wait)

-- whether a call at `now` needs a request but may not make one yet
abbrev pub is_held_back : Patient → ℤ → Bool
is_held_back patient now =
    not (is_good patient.keeper now) && is_waiting_for patient.wait now patient.failed_at

-- whether the kept token may be used during a wait: this is set, and its lifetime has not ended
abbrev pub lasts : Patient → ℤ → Bool
lasts patient now = patient.until_end && is_good_if_any 0 now patient.keeper.token

-- the wait ends at `end`, in nanoseconds since 1970: that moment as a `Timestamp`, or `None` if it
-- is out of the range of `Timestamp`
abbrev pub IsUntil : ℤ → Option Timestamp → Type 0
IsUntil end (Some until) = until.nanosecond ≡ end
IsUntil end None = IsTimestampNanos end → ⊥

-- whether an error begins a wait: not if the HTTP client was not called, because memory ran out
-- before or the endpoint is not an HTTP target
abbrev pub counts : {RE T : Type 0} → RequestTokenError RE T → Bool
counts (token.Memory sent) = sent
counts (token.Other text) = not (bytes_eq (string_bytes text) not_http_text)
counts error = true

-- the wait that a server asks for (RFC 9110, 10.2.3; RFC 6585, 4), which the error of the HTTP
-- client tells; other errors of a request tell none
abbrev pub wait_asked_by : {RE T : Type 0} → (RE → Option ℕ) → RequestTokenError RE T → Option ℕ
wait_asked_by asked (token.Request error) = asked error
wait_asked_by asked error = None

-- the wait in force after a failure: the one that the server asks for, if it is longer than the
-- least wait, but no longer than the greatest that may be asked for
abbrev pub wait_in_force : ℕ → ℕ → Option ℕ → ℕ
wait_in_force least most None = least
wait_in_force least most (Some asked) = max least (min most asked)

-- what is kept after a call without an error: if a request was made, the wait has ended
abbrev pub after_call : Patient → ℤ → Keeper → Patient
after_call patient now kept = record patient {
  keeper = kept;
  failed_at = if is_good patient.keeper now then patient.failed_at else None;
}

-- what is kept after a request at `now` failed: the wait begins, if the error counts
abbrev pub failed_call : {RE T : Type 0} → (RE → Option ℕ) → Patient → ℤ → RequestTokenError RE T
    → Patient
failed_call asked patient now error = record patient {
  wait =
      if counts error then wait_in_force patient.least_wait patient.most_asked_wait (wait_asked_by asked error) else patient.wait;
  failed_at = if counts error then Some now else patient.failed_at;
}

-- what is kept after the reply to a request at `now` had a token of another type: that is
-- forgotten, and the wait begins
abbrev pub other_type_call : Patient → ℤ → Keeper → Patient
other_type_call patient now kept = record patient {
  keeper = record kept { token = None };
  wait = patient.least_wait;
  failed_at = Some now;
}

-- what is left of a keeper by a call with this error: all of it, unless a token of another type was
-- got
abbrev pub IsLeftBy : {RE T : Type 0} → PatientError RE T → Keeper → Keeper → Type 0
IsLeftBy OtherTokenType before after = after.token ≡ None
IsLeftBy error before after = after ≡ before

-- what is kept after a call at `now` that is held back: the time from which it waits
abbrev pub held_back : Patient → ℤ → Patient
held_back patient now = record patient { failed_at = option_map (waits_from now) patient.failed_at }

-- the wait in force is not shorter than the least wait, and not longer than the longer of that and
-- the greatest that a server may ask for
abbrev pub IsWaitBounded : Patient → Type 0
IsWaitBounded patient =
    (patient.least_wait ≤ patient.wait)
    × (patient.wait ≤ max patient.least_wait patient.most_asked_wait)

-- a call: its time in nanoseconds since 1970, and whether it is held back
pub record PatientCall : Type 0 where
  pub now : ℤ
  pub held : Bool

-- each of these calls comes less than one wait after `from`, and after each call before it
abbrev pub AreWithinTheWait : ℕ → ℤ → List PatientCall → Type 0
AreWithinTheWait wait from [] = Unit {0}
AreWithinTheWait wait from (call ∷ calls) =
    IsTrue (is_waiting_for wait call.now (Some from))
    × AreWithinTheWait wait (waits_from call.now from) calls

-- the times of the calls that are not held back, in order, in nanoseconds since 1970
abbrev pub free_moments : List PatientCall → List ℤ
free_moments [] = []
free_moments (call ∷ calls) =
    if call.held then free_moments calls else call.now ∷ free_moments calls

-- `asked` is the wait in nanoseconds that an error of the HTTP client says the server asks for
module _ {D T RE C : Type 0} (asks : ReplyRule → (List ℕ → RequestView → Type 0) → List ℕ → C → Result D (RequestTokenError RE T) → C → Type 0) (told : D → Given) (asked : RE → Option ℕ) where
  -- a call at `now` of a keeper without a token of another type. If it is not held back, it is a
  -- call of the keeper, and if its token is of another type, that is forgotten. If it is held back,
  -- the HTTP client is not called: the kept token is used if it lasts, and else the end of the wait
  -- is returned.
  abbrev pub UsableCalls : Patient → ℤ → C → Result Unit (PatientError RE T) → C → Patient → Type 0
  UsableCalls patient now before (Ok done) after kept =
      ((is_held_back patient now ≡ false) × KeeperCalls asks told patient.keeper now before (Ok tt) after kept.keeper
      × IsTrue (is_usable_if_any patient.token_types kept.keeper.token) × (kept ≡ after_call patient now kept.keeper))
      ⊎ (IsTrue (is_held_back patient now && lasts patient now) × (after ≡ before) × (kept ≡ held_back patient now))
  UsableCalls patient now before (Err OtherTokenType) after kept =
      (is_held_back patient now ≡ false)
      × ((got : Keeper) × KeeperCalls asks told patient.keeper now before (Ok tt) after got
      × (is_usable_if_any patient.token_types got.token ≡ false) × (kept ≡ other_type_call patient now got))
  UsableCalls patient now before (Err (Request error)) after kept =
      (is_held_back patient now ≡ false)
      × KeeperCalls asks told patient.keeper now before (Err error) after patient.keeper
      × (kept ≡ failed_call asked patient now error)
  UsableCalls patient now before (Err (Waits until)) after kept =
      IsTrue (is_held_back patient now && not (lasts patient now))
      × IsSomeAnd kept.failed_at (λ from. IsUntil (from +ℤ pos kept.wait) until)
      × (after ≡ before) × (kept ≡ held_back patient now)

  -- a call at `now`, before which a kept token of another type is forgotten
  abbrev pub PatientCalls : Patient → ℤ → C → Result Unit (PatientError RE T) → C → Patient → Type 0
  PatientCalls patient now before result after kept =
      UsableCalls (without_other_type patient) now before result after kept

  -- a call at `now` whose value is one that `Gives` allows for the text of the kept token
  abbrev pub PatientAnswers : {A : Type 0} → (List ℕ → A → Type 0) → Patient → ℤ → C
      → Result A (PatientError RE T) → C → Patient → Type 0
  PatientAnswers Gives patient now before (Ok value) after kept =
      PatientCalls patient now before (Ok tt) after kept
      × IsSomeAnd kept.keeper.token (λ token. Gives token.access_token value)
  PatientAnswers Gives patient now before (Err error) after kept =
      PatientCalls patient now before (Err error) after kept

  -- these calls, one after another: what is kept, and the HTTP client, before and after them
  abbrev pub PatientRuns : Patient → C → List PatientCall → C → Patient → Type 0
  PatientRuns patient before [] after kept = (after ≡ before) × (kept ≡ patient)
  PatientRuns patient before (call ∷ calls) after kept =
      (call.held ≡ is_held_back (without_other_type patient) call.now)
      × ((result : Result Unit (PatientError RE T)) × (middle : C) × (next : Patient)
      × PatientCalls patient call.now before result middle next × PatientRuns next middle calls after kept)

  -- calls of a keeper, one after another, after each of which a token of another type is forgotten
  abbrev pub UsableRuns : Option (List (List ℕ)) → Keeper → C → List Call → C → Keeper → Type 0
  UsableRuns token_types keeper before [] after kept = (after ≡ before) × (kept ≡ keeper)
  UsableRuns token_types keeper before (call ∷ calls) after kept =
      (result : Result Unit (RequestTokenError RE T)) × (middle : C)
      × IsOutcome asks told keeper call.now before result middle call.outcome
      × UsableRuns token_types (usable_part token_types (kept_after keeper call.now call.outcome)) middle calls after kept

  -- the calls that are not held back are calls of the keeper at the same times, in order; a token
  -- of another type is forgotten before the first and after each
  abbrev pub EachPatientRunIsARun : Type 0
  EachPatientRunIsARun =
      (patient kept : Patient) (before after : C) (calls : List PatientCall) → PatientRuns patient before calls after kept
      → (own : List Call) × (map (λ call. call.now) own ≡ free_moments calls)
      × UsableRuns patient.token_types (without_other_type patient).keeper before own after (without_other_type kept).keeper

  -- for a caller that can use any type, they are the calls of a keeper, which forgets nothing
  abbrev pub EachRunOfAnyTypeIsARun : Type 0
  EachRunOfAnyTypeIsARun =
      (patient kept : Patient) (before after : C) (calls : List PatientCall) → PatientRuns patient before calls after kept → patient.token_types ≡ None
      → (own : List Call) × (map (λ call. call.now) own ≡ free_moments calls) × Runs asks told patient.keeper before own after kept.keeper

  -- after any calls, a call without an error leaves a token that the caller can use
  abbrev pub EachTokenIsUsable : Type 0
  EachTokenIsUsable =
      (patient later kept : Patient) (before middle after : C) (calls : List PatientCall) (now : ℤ) → PatientRuns patient before calls middle later
      → PatientCalls later now middle (Ok tt) after kept
      → IsSomeAnd kept.keeper.token (λ token. IsTrue (is_understood patient.token_types token.token_type))

  -- calls change neither of these bounds, and after them the wait in force is within them
  abbrev pub EachWaitIsBounded : Type 0
  EachWaitIsBounded =
      (patient kept : Patient) (before after : C) (calls : List PatientCall) → PatientRuns patient before calls after kept → IsWaitBounded patient
      → (kept.least_wait ≡ patient.least_wait) × (kept.most_asked_wait ≡ patient.most_asked_wait) × IsWaitBounded kept

  -- calls at or after the time of a failed request, before the wait in force has passed, change
  -- neither the HTTP client nor what is kept
  abbrev pub EachFailureIsWaitedFor : Type 0
  EachFailureIsWaitedFor =
      (patient failed kept : Patient) (before middle after : C) (moment : ℤ) (error : RequestTokenError RE T) (calls : List PatientCall)
      → PatientCalls patient moment before (Err (Request error)) middle failed
      → IsTrue (counts error)
      → All (λ call. IsTrue (int_le moment call.now && int_lt call.now (moment +ℤ pos failed.wait)))
      calls
      → PatientRuns failed middle calls after kept
      → (after ≡ middle) × (kept ≡ failed)

  -- the same after a token of another type
  abbrev pub EachOtherTypeIsWaitedFor : Type 0
  EachOtherTypeIsWaitedFor =
      (patient failed kept : Patient) (before middle after : C) (moment : ℤ) (calls : List PatientCall)
      → PatientCalls patient moment before (Err OtherTokenType) middle failed
      → All (λ call. IsTrue (int_le moment call.now && int_lt call.now (moment +ℤ pos failed.wait)))
      calls
      → PatientRuns failed middle calls after kept
      → (after ≡ middle) × (kept ≡ failed)

  -- if the error of the HTTP client tells that the server asks for a wait, calls before that wait,
  -- or the greatest that may be asked for, has passed change neither the HTTP client nor what is
  -- kept
  abbrev pub EachAskedWaitIsHeeded : Type 0
  EachAskedWaitIsHeeded =
      (patient failed kept : Patient) (before middle after : C) (moment : ℤ) (error : RE) (wait : ℕ) (calls : List PatientCall)
      → PatientCalls patient moment before (Err (Request (token.Request error))) middle failed
      → asked error ≡ Some wait
      → All
      (λ call. IsTrue (int_le moment call.now && int_lt call.now (moment +ℤ pos (min patient.most_asked_wait wait))))
      calls
      → PatientRuns failed middle calls after kept
      → (after ≡ middle) × (kept ≡ failed)

  -- if the clock is set back after a failed request, the wait begins again at the earlier time, and
  -- calls before it has passed change neither the HTTP client nor the keeper
  abbrev pub EachSetBackIsWaitedFor : Type 0
  EachSetBackIsWaitedFor =
      (patient failed kept : Patient) (before middle after : C) (moment : ℤ) (error : RequestTokenError RE T) (calls : List PatientCall)
      → PatientCalls patient moment before (Err (Request error)) middle failed
      → IsTrue (counts error)
      → AreWithinTheWait failed.wait moment calls → PatientRuns failed middle calls after kept
      → (after ≡ middle) × (kept.keeper ≡ failed.keeper)

  -- the end of the wait that a call returns is at most one wait after that call
  abbrev pub EachEndIsWithinTheWait : Type 0
  EachEndIsWithinTheWait =
      (patient kept : Patient) (before after : C) (now : ℤ) (until : Timestamp) → PatientCalls patient now before (Err (Waits (Some until))) after kept
      → IsTrue (int_le until.nanosecond (now +ℤ pos patient.wait))

  -- if each of several calls in a row is held back, each comes less than one wait after the first
  -- of them, however the clock is set between them
  abbrev pub EachWaitEnds : Type 0
  EachWaitEnds =
      (patient kept : Patient) (before after : C) (first : PatientCall) (calls : List PatientCall) → PatientRuns patient before (first ∷ calls) after kept
      → All (λ call. IsTrue call.held) (first ∷ calls)
      → All (λ call. IsTrue (int_lt call.now (first.now +ℤ pos patient.wait))) calls

-- the HTTP client was called once (`true`), or not at all (`false`)
abbrev pub IsCalledIf : {RE C : Type 0} → (C → HttpRequest → Result HttpResponse RE → C → Type 0)
    → Bool → C → C → Type 0
IsCalledIf {RE = RE} step true before after = (request : HttpRequest) × (answer : Result HttpResponse RE) × step before request answer after
IsCalledIf step false before after = after ≡ before

module _ {D T RE C : Type 0} (asks : ReplyRule → (List ℕ → RequestView → Type 0) → List ℕ → C → Result D (RequestTokenError RE T) → C → Type 0) (step : C → HttpRequest → Result HttpResponse RE → C → Type 0) where
  -- an error of a keeper begins a wait exactly if the HTTP client was called
  abbrev pub EachSentFaultCounts : Type 0
  EachSentFaultCounts =
      (keeper : Keeper) (before after : C) (error : RequestTokenError RE T) → Renews asks keeper before (Err error) after
      → IsCalledIf step (counts error) before after
