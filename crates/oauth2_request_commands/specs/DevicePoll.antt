-- The command `device_poll`: a device polls for its token until the user decides (RFC 8628, 3.4
-- and 3.5).
use Rattle.std.specs.Prelude.{◌≡◌, ◌⊎◌, ℕ, zero, suc, ℤ, List, [], ◌∷◌, length, map, Option, Some, None, unwrap_or, codes}
use Rattle.http_uri.specs.Uri.{SpellsNone}
use Rattle.url.specs.Parts.{serialize}
use Rattle.oauth2_codes.specs.Codes.{token_code_reading}
use Rattle.oauth2_codes.specs.ErrorCodes.{DeviceErrorCode, expired_token, device_error_code_text, device_error_code_reading}
use Rattle.oauth2_codes.specs.ErrorResponse.{ErrorParts, parts_of_error, error_reading}
use Rattle.oauth2_replies.specs.Kept.{any_object}
use Rattle.oauth2_replies.specs.Token.{token_reading}
use Rattle.oauth2_urls.specs.Addressed.{Addressed}
use Rattle.oauth2_wire.specs.declared.content_type.ReplyRule.{ReplyRule}
use Rattle.oauth2_wire.specs.Reply.{Answer, ReplyView, answer_of}
use Rattle.oauth2_wire.specs.Request.{RequestView, IsRequestOf}
use Rattle.oauth2_poll.specs.declared.device_poll.PollAnswer.{PollAnswer}
use Rattle.oauth2_poll.specs.declared.device_poll.PollAnswer.TheVariants.{Failed}
use Rattle.oauth2_poll.specs.Laws.{IsTraceOf}
use Rattle.oauth2_poll.specs.Trace.{TraceEvent, Reading, Asked, Answered, Slept, Ending, TooLong, OutOfRange, Late, Decided, Limited, IsLate, readings_in, answers_in}
use Rattle.oauth2_device.specs.DeviceToken.{DeviceToken, nanos_of_seconds, device_token_configuration}
use Rattle.oauth2_device.specs.Poll.{class_of_answer, input_of}
use Rattle.oauth2.specs.NewRequest.{base_of}
use Rattle.oauth2.specs.Settings.{Settings}
use Rattle.oauth2_request_commands.specs.Client.{WithToken}
use Rattle.oauth2_world.specs.Clock.{Clock, readings_of}
use Rattle.oauth2_world.specs.Events.{Event, exchanged, slept}
use Rattle.oauth2_request_commands.specs.Exchange.{BasicToken, error_members, reply_output, token_json}
use Rattle.oauth2_request_commands.specs.Out.{Output, after, success_output, no_memory_output, other_output, refused_output, unsent_output}
use Rattle.oauth2_world.specs.Replies.{next_reply, later_replies}
use Rattle.oauth2_script.specs.DevicePollParams.{DevicePollParams}
use Rattle.oauth2_script.specs.Replies.{Reply}

-- the poll of the parameters; times are in nanoseconds, and the cap is 10 seconds if absent
abbrev pub device_token : Settings → DevicePollParams → Addressed → DeviceToken
device_token client p url = record {
  base = record (base_of client) { extra_params = p.extra_params };
  token_url = url;
  device_code = p.device.device_code;
  lifetime = nanos_of_seconds p.device.expires_in;
  interval = nanos_of_seconds p.device.interval;
  max_backoff_interval = unwrap_or p.cap (nanos_of_seconds 10);
}

-- how long the device polls, in nanoseconds: the `expires_in` of its codes if no timeout is given
abbrev pub timeout : DevicePollParams → ℕ
timeout p = unwrap_or p.timeout (nanos_of_seconds p.device.expires_in)

-- ---- the calls of the client

-- what the first `n` calls of the client return; `None` is a failed call
abbrev pub calls_of : List Reply → ℕ → List (Option ReplyView)
calls_of replies zero = []
calls_of replies (suc n) = next_reply replies ∷ calls_of (later_replies replies) n

-- the last of these calls, or `before` if there is none
abbrev pub last_call : Option ReplyView → List (Option ReplyView) → Option ReplyView
last_call before [] = before
last_call before (call ∷ calls) = last_call call calls

-- what a reply to a device says: a token, or an error (RFC 8628, 3.5)
abbrev pub poll_answer : ReplyRule → ReplyView → Answer BasicToken (ErrorParts DeviceErrorCode)
poll_answer rule =
    answer_of rule (token_reading any_object token_code_reading)
    (error_reading device_error_code_reading)

-- what a call means to the poll; a failed call is `Failed`
abbrev pub class_of_call : ReplyRule → Option ReplyView → PollAnswer
class_of_call rule None = Failed
class_of_call rule (Some reply) = class_of_answer (poll_answer rule reply)

-- ---- what is shown

-- the events that a poll shows, with these replies: each request with its reply, and each sleep
abbrev pub AreEventsOf : (RequestView → Type 0) → List Reply → List TraceEvent → List Event → Type 0
AreEventsOf IsRequest replies [] shown = shown ≡ []
AreEventsOf IsRequest replies (Reading t ∷ events) shown =
    AreEventsOf IsRequest replies events shown
AreEventsOf IsRequest replies (Asked ∷ events) shown =
    (request : RequestView) × (rest : List Event) × IsRequest request
    × AreEventsOf IsRequest (later_replies replies) events rest
    × (shown ≡ exchanged request (next_reply replies) ∷ rest)
AreEventsOf IsRequest replies (Answered a ∷ events) shown =
    AreEventsOf IsRequest replies events shown
AreEventsOf IsRequest replies (Slept d ∷ events) shown =
    (rest : List Event) × AreEventsOf IsRequest replies events rest × (shown ≡ slept d ∷ rest)

-- the members of an error response to a device (RFC 8628, 3.5)
abbrev pub device_error_members : ErrorParts DeviceErrorCode → ErrorParts (List ℕ)
device_error_members e = error_members device_error_code_text e

-- the last event of a poll with this ending, after these calls of the client
abbrev pub shown_at : ReplyRule → Ending → List (Option ReplyView) → Output
shown_at rule TooLong calls = other_output (codes "failed to convert the timeout")
shown_at rule OutOfRange calls = other_output (codes "failed to calculate timeout")
shown_at rule (Late n) calls =
    refused_output
    (device_error_members (parts_of_error expired_token (Some (codes "This device code has expired.")) None))
shown_at rule (Decided n) calls =
    reply_output (λ token. success_output (token_json token)) device_error_members
    (poll_answer rule) (last_call None calls)
shown_at rule (Limited n) calls = other_output (codes "polling limit reached")

-- the output of a poll: the library polls with what the clock shows and what the client returns,
-- and what is shown are the events of this poll
pub record IsPolled (r : DeviceToken) (timeout max_polls : ℕ) (clock : Clock) (replies : List Reply) (o : Output) : Type 0 where
  pub events : List TraceEvent
  pub shows : readings_in events ≡ readings_of clock (length (readings_in events))
  pub calls : List (Option ReplyView)
  pub are_calls : calls ≡ calls_of replies (length (answers_in events))
  pub answers : answers_in events ≡ map (class_of_call r.base.reply_rule) calls
  pub done : IsTraceOf (input_of r timeout max_polls events) events
  pub shown : List Event
  pub are_shown : AreEventsOf (IsRequestOf (device_token_configuration r) (serialize r.token_url.url)) replies events shown
  -- the events are a whole poll, and its answer comes last; or they are the start of a poll, where
  -- memory ran out; or the endpoint is no HTTP target, which is noticed at the first request
  pub end : (
      ((done.rest ≡ []) × (o ≡ after shown (shown_at r.base.reply_rule done.ending calls)))
      ⊎ ((o ≡ after shown no_memory_output)
      ⊎ (SpellsNone (serialize r.token_url.url)
      × ((start moment : ℤ) × (events ≡ Reading start ∷ Reading moment ∷ []))
      × (¬ (IsLate (input_of r timeout max_polls events) 1))
      × (o ≡ after shown unsent_output)))
      )

-- the output of `device_poll`: that of its poll, or that no token endpoint is set
abbrev pub IsDevicePollOutput : Settings → DevicePollParams → Clock → List Reply → Output → Type 0
IsDevicePollOutput client p clock replies o =
    WithToken
    (λ url o. IsPolled (device_token client p url) (timeout p) p.max_polls clock replies o)
    client.token_url o
