-- One round of a poll.
use Rattle.std.specs.Prelude.{◌≡◌, ◌≢◌, ◌⊎◌, Bool, true, List, [], ◌∷◌, codes, Option, Some, None, Result, Ok, Err, IsErrAnd, ◌<ℤ◌}
use Rattle.std.specs.declared.time.Duration.{Duration}
use Rattle.std.specs.Duration.{as_nanos}
use Rattle.jiff.specs.Types.{Timestamp}
use Rattle.oauth2_poll.specs.declared.device_poll.PollAnswer.TheVariants.{Deciding}
use Rattle.oauth2_poll.specs.State.{PollState}
use Rattle.oauth2_poll.specs.Step.{state_after}
use Rattle.oauth2_wire.specs.declared.error.RequestTokenError.TheVariants as token
use Rattle.oauth2_wire.specs.Once.{not_http_text, SaysOther}
use Rattle.oauth2_wire.specs.Request.{HttpRequest}
use Rattle.oauth2_wire.specs.Reply.{HttpResponse, Answer, ShowsAnswer}
use Rattle.oauth2_device.specs.declared.verdict.Verdict.{Verdict}
use Rattle.oauth2_device.specs.declared.verdict.Verdict.TheVariants.{Again, Decided}
use Rattle.oauth2_device.specs.Events.{PollCall, Reading, Sent, Slept}
use Rattle.oauth2_device.specs.Poll.{DeviceError, PollError, device_error, class_of, class_of_answer, SaysExpired}

-- `IsError` holds of the error, or memory ran out
abbrev pub OrMemory : {RE : Type 0} → (PollError RE → Type 0) → Bool → PollError RE → Type 0
OrMemory IsError sent error = IsError error ⊎ (error ≡ token.Memory sent)

module _ {D A RE : Type 0} (meaning : D → A) where
  -- the reply decides the poll, and the result is what it says
  abbrev pub IsDecision : Answer A DeviceError → Result D (PollError RE) → Type 0
  IsDecision said result =
      (class_of_answer said ≡ Deciding) × ShowsAnswer meaning device_error said result

  -- the verdict on what a reply says: go on with this answer, or stop with this result (or out of
  -- memory)
  abbrev pub IsVerdict : Answer A DeviceError → Verdict D RE → Type 0
  IsVerdict said (Again answer) = (class_of_answer said ≡ answer) × (answer ≢ Deciding)
  IsVerdict said (Decided result) = IsDecision said result ⊎ (result ≡ Err (token.Memory true))

  module _ (says : HttpResponse → Answer A DeviceError) where
    -- the verdict on the result of a request: go on with this answer, or stop with this result (or
    -- out of memory)
    abbrev pub IsJudged : Result HttpResponse RE → Verdict D RE → Type 0
    IsJudged reply (Again answer) = (class_of says reply ≡ answer) × (answer ≢ Deciding)
    IsJudged reply (Decided result) =
        ((r : HttpResponse) × (reply ≡ Ok r) × IsDecision (says r) result) ⊎ (result ≡ Err (token.Memory true))

    -- a round that ends without a request: the deadline has passed, the endpoint is not an HTTP
    -- target, or memory ran out
    pub record EndsUnsent (NotHttp : Type 0) (poll : PollState) (sent : Bool) (e : List (PollCall RE)) (error : PollError RE) : Type 0 where
      pub moment : Timestamp
      pub events : e ≡ Reading moment ∷ []
      pub cause :
          ((poll.deadline <ℤ moment.nanosecond) × SaysExpired error)
          ⊎ (((¬ (poll.deadline <ℤ moment.nanosecond)) × NotHttp × SaysOther not_http_text error) ⊎ (error ≡ token.Memory sent))

    -- a round that ends after its request: the reply decides, the limit is reached, or memory ran
    -- out
    pub record EndsSent (poll : PollState) (e : List (PollCall RE)) (result : Result D (PollError RE)) : Type 0 where
      pub moment : Timestamp
      pub request : HttpRequest
      pub reply : Result HttpResponse RE
      pub events : e ≡ Reading moment ∷ Sent request reply ∷ []
      pub in_time : ¬ (poll.deadline <ℤ moment.nanosecond)
      pub cause :
          ((r : HttpResponse) × (reply ≡ Ok r) × IsDecision (says r) result)
          ⊎ (((class_of says reply ≢ Deciding) × (poll.polls_left ≡ 1) × IsErrAnd result (SaysOther (codes "polling limit reached")))
          ⊎ (result ≡ Err (token.Memory true)))

    -- a round after which the poll goes on: it read the clock, sent a request that decided nothing,
    -- and slept
    pub record RoundGoesOn (poll : PollState) (e : List (PollCall RE)) (after : PollState) : Type 0 where
      pub moment : Timestamp
      pub request : HttpRequest
      pub reply : Result HttpResponse RE
      pub sleep : Duration
      pub events : e ≡ Reading moment ∷ Sent request reply ∷ Slept sleep ∷ []
      pub in_time : ¬ (poll.deadline <ℤ moment.nanosecond)
      pub open_answer : class_of says reply ≢ Deciding
      pub more : poll.polls_left ≢ 1
      pub after_is : after ≡ state_after poll (class_of says reply)
      pub sleep_is : as_nanos sleep ≡ after.interval

    -- the events of a round, its result (`None` if the poll goes on) and the state of the poll
    -- after it
    abbrev pub IsTurn : Type 0 → PollState → Bool → List (PollCall RE)
        → Option (Result D (PollError RE)) → PollState → Type 0
    IsTurn NotHttp poll sent e None after = RoundGoesOn poll e after
    IsTurn NotHttp poll sent e (Some (Err error)) after =
        EndsUnsent NotHttp poll sent e error ⊎ EndsSent poll e (Err error)
    IsTurn NotHttp poll sent e (Some (Ok value)) after = EndsSent poll e (Ok value)
