-- The ways through one round.
use Rattle.std.proofs.Common.{◌≡◌, ◌≢◌, ◌⊎◌, inl, inr, [], ◌∷◌, Bool, true, Some, Result, Ok, Err, refl, ap, sym, ◌∙◌}
use Rattle.std.specs.Prelude.{codes, ◌<ℤ◌}
use Rattle.std.specs.declared.time.Duration.{Duration}
use Rattle.jiff.specs.Types.{Timestamp}
use Rattle.oauth2_poll.specs.declared.device_poll.PollAnswer.{PollAnswer}
use Rattle.oauth2_poll.specs.declared.device_poll.PollAnswer.TheVariants.{Deciding}
use Rattle.oauth2_poll.specs.declared.device_poll.PollStep.{PollStep}
use Rattle.oauth2_poll.specs.declared.device_poll.PollStep.TheVariants as step
use Rattle.oauth2_poll.specs.State.{PollState}
use Rattle.oauth2_poll.specs.Step.{state_after, action_of, action_after}
use Rattle.oauth2_poll.proofs.Steps.{sleep_step, limit_step}
use Rattle.oauth2_wire.specs.declared.request.RequestFault.{RequestFault}
use Rattle.oauth2_wire.specs.declared.request.RequestFault.TheVariants as fault
use Rattle.oauth2_wire.specs.declared.error.RequestTokenError.TheVariants as token
use Rattle.oauth2_wire.specs.Once.{SaysOther, not_http_text}
use Rattle.oauth2_wire.specs.Request.{HttpRequest}
use Rattle.oauth2_wire.specs.Reply.{HttpResponse, Answer}
use Rattle.oauth2_device.specs.declared.verdict.Verdict.TheVariants.{Again, Decided}
use Rattle.oauth2_device.specs.Events.{Reading, Sent, Slept}
use Rattle.oauth2_device.specs.Poll.{DeviceError, PollError, SaysExpired, class_of}
use Rattle.oauth2_device.specs.private.Round.{OrMemory, IsJudged, EndsUnsent, EndsSent, RoundGoesOn, IsTurn}

module _ {D A RE : Type 0} (meaning : D → A) (says : HttpResponse → Answer A DeviceError) (N : Type 0) (poll : PollState) (sent : Bool) (t : Timestamp) where
  pub late : (error : PollError RE) → poll.deadline <ℤ t.nanosecond → OrMemory SaysExpired sent error → EndsUnsent meaning says N poll sent (Reading t ∷ []) error
  late error after (inl h) = record { moment = t; events = refl; cause = inl (after, h) }
  late error after (inr h) = record { moment = t; events = refl; cause = inr (inr h) }

  module _ (before : ¬ (poll.deadline <ℤ t.nanosecond)) where
    pub unprepared : (kind : RequestFault) (error : PollError RE) (prepared : Result HttpRequest RequestFault) → prepared ≡ Err kind → (prepared ≡ Err fault.NotHttp → N)
        → ((kind ≡ fault.NotHttp) × SaysOther not_http_text error) ⊎ (error ≡ token.Memory sent) → EndsUnsent meaning says N poll sent (Reading t ∷ []) error
    unprepared kind error prepared is none (inl (not_http, said)) = record { moment = t; events = refl; cause = inr (inl (before, none (is ∙ ap Err not_http), said)) }
    unprepared kind error prepared is none (inr h) = record { moment = t; events = refl; cause = inr (inr h) }

    module _ (q : HttpRequest) (a : Result HttpResponse RE) where
      -- after a request the result is that of the round
      turn_of : (result : Result D (PollError RE)) (after : PollState) → EndsSent meaning says poll (Reading t ∷ Sent q a ∷ []) result → IsTurn meaning says N poll sent (Reading t ∷ Sent q a ∷ []) (Some result) after
      turn_of (Ok value) after x = x
      turn_of (Err error) after x = inr x

      pub decided : (result : Result D (PollError RE)) (after : PollState) → IsJudged meaning says a (Decided result) → IsTurn meaning says N poll sent (Reading t ∷ Sent q a ∷ []) (Some result) after
      decided result after (inl h) = turn_of result after (record { moment = t; request = q; reply = a; events = refl; in_time = before; cause = inl h })
      decided result after (inr h) = turn_of result after (record { moment = t; request = q; reply = a; events = refl; in_time = before; cause = inr (inr h) })

      module _ (answer : PollAnswer) (said : IsJudged {D = D} meaning says a (Again answer)) (s : PollStep) (action : action_of s ≡ action_after poll answer) where
        open_answer : class_of says a ≢ Deciding
        open_answer e = said.1 (sym said.0 ∙ e)

        pub goes_on : (d : Duration) (after : PollState) → s ≡ step.Sleep d → after ≡ state_after poll answer → RoundGoesOn {D = D} meaning says poll (Reading t ∷ Sent q a ∷ Slept d ∷ []) after
        goes_on d after is state =
            let k = sleep_step poll answer s d said.1 action is in
            record {
              moment = t;
              request = q;
              reply = a;
              sleep = d;
              events = refl;
              in_time = before;
              open_answer = open_answer;
              more = k.0;
              after_is = state ∙ ap (state_after poll) (sym said.0);
              sleep_is = k.1 ∙ ap (λ (x : PollState). x.interval) (sym state);
            }

        pub at_limit : (error : PollError RE) → (s ≡ step.Limit) ⊎ (s ≡ step.Done) → OrMemory (SaysOther (codes "polling limit reached")) true error
            → EndsSent meaning says poll (Reading t ∷ Sent q a ∷ []) (Err error)
        at_limit error is (inl h) =
            record { moment = t; request = q; reply = a; events = refl; in_time = before; cause = inr (inl (open_answer, limit_step poll answer s said.1 action is, h)) }
        at_limit error is (inr h) =
            record { moment = t; request = q; reply = a; events = refl; in_time = before; cause = inr (inr (ap Err h)) }
