-- A connection with a deadline: what each of its calls does.
use Rattle.std.specs.Prelude.{◌≡◌, ◌≢◌, ◌⊎◌, ◌-◌, ℕ, ◌+◌, ◌≤◌, ⊤, Result, Ok, Err}
use Rattle.std.specs.Duration.{as_nanos}
use Rattle.std.specs.declared.time.Duration.{Duration}
use Rattle.std.specs.declared.io.Error.{Error}
use Rattle.std.specs.declared.io.ErrorKind.TheVariants.{TimedOut}
use Rattle.std.specs.IoError.{error_kind}
use Rattle.oauth2_http1_connections.specs.declared.deadlines.stream.DeadlineStream.{DeadlineStream}

-- the call was refused, since its time was up
abbrev pub IsTimedOut : {A : Type 0} → Result A Error → Type 0
IsTimedOut (Ok a) = ⊥
IsTimedOut (Err e) = error_kind e ≡ TimedOut

-- the time that is left until the deadline, at this time: none at the deadline and after it
abbrev pub IsTimeLeft : Duration → Duration → Duration → Type 0
IsTimeLeft deadline now left = as_nanos left ≡ as_nanos deadline - as_nanos now

module _ {S K : Type 0} (tells : K → Duration → K → Type 0) (limits : S → Duration → Result ⊤ Error → S → Type 0) where
  -- the clock is read once. If no time is left, the call is refused, and the connection stays as it
  -- was. Else it is told that its next call takes at most the time that is left.
  abbrev pub Limits : DeadlineStream S K → Result ⊤ Error → DeadlineStream S K → Type 0
  Limits before result after =
      (after.deadline ≡ before.deadline)
      × ((now : Duration) × tells before.clock now after.clock
      × ((left : Duration) × IsTimeLeft before.deadline now left
      × (((as_nanos left ≡ 0) × IsTimedOut result × (after.stream ≡ before.stream))
      ⊎ ((as_nanos left ≢ 0) × limits before.stream left result after.stream))))

  -- the connection made this call, within the time that was left; or it did not, and the error says
  -- why no limit was set for it
  abbrev pub IsInTime : {A : Type 0} → (S → Result A Error → S → Type 0) → DeadlineStream S K
      → Result A Error → DeadlineStream S K → Type 0
  IsInTime does before result after =
      ((limited : DeadlineStream S K) × Limits before (Ok tt) limited
      × does limited.stream result after.stream × (after.clock ≡ limited.clock) × (after.deadline ≡ limited.deadline))
      ⊎ ((e : Error) × (result ≡ Err e) × Limits before (Err e) after)

-- a call that begins at this time, and takes at most the time that is left, ends by the deadline
abbrev pub EachCallEndsInTime : Type 0
EachCallEndsInTime =
    (deadline now left : Duration) (end : ℕ)
    → IsTimeLeft deadline now left → as_nanos left ≢ 0 → end ≤ as_nanos now + as_nanos left
    → end ≤ as_nanos deadline
