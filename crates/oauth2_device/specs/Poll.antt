-- What the poll of a device does and returns (RFC 8628, sections 3.4 and 3.5), stated over the
-- finished list of its events.
use Rattle.std.specs.Prelude.{◌≡◌, ◌⊎◌, ℕ, List, [], ◌∷◌, codes, Option, Some, None, option_map, unwrap_or, Result, Ok, Err, IsErrAnd}
use Rattle.std.specs.declared.time.Duration.{Duration}
use Rattle.std.specs.Duration.{as_nanos}
use Rattle.http_uri.specs.Uri.{SpellsNone}
use Rattle.jiff.specs.Types.{Timestamp}
use Rattle.serde_json.specs.Data.{Data}
use Rattle.url.specs.Parts.{serialize}
use Rattle.oauth2_codes.specs.declared.device_error.DeviceCodeErrorResponseType.{DeviceCodeErrorResponseType}
use Rattle.oauth2_codes.specs.declared.error_response.StandardErrorResponse.{StandardErrorResponse}
use Rattle.oauth2_codes.specs.ErrorCodes.{DeviceErrorCode, authorization_pending, slow_down, access_denied, expired_token, basic, device_error_code, device_error_code_reading}
use Rattle.oauth2_codes.specs.ErrorResponse.{ErrorParts, parts_of_error, parts_of, error_reading}
use Rattle.oauth2_json.specs.Reading.{Reading as JsonReading}
use Rattle.oauth2_poll.specs.declared.device_poll.PollAnswer.{PollAnswer}
use Rattle.oauth2_poll.specs.declared.device_poll.PollAnswer.TheVariants.{Failed, Pending, SlowDown, Deciding}
use Rattle.oauth2_poll.specs.Trace as trace
use Rattle.oauth2_poll.specs.Trace.{PollInput, Ending, IsLate, readings_in, answers_in}
use Rattle.oauth2_poll.specs.Laws.{IsTraceOf}
use Rattle.oauth2_poll.specs.Pacing.{SleepsArePaced, ClockIsHonest, RequestsFit}
use Rattle.oauth2_wire.specs.declared.content_type.ReplyRule.{ReplyRule}
use Rattle.oauth2_wire.specs.declared.error.RequestTokenError.{RequestTokenError}
use Rattle.oauth2_wire.specs.declared.error.RequestTokenError.TheVariants as token
use Rattle.oauth2_wire.specs.Once.{not_http_text, SaysOther}
use Rattle.oauth2_wire.specs.Reply.{HttpResponse, Answer, accepted, refused, unread, other, answer_of, reply_of, ShowsAnswer}
use Rattle.oauth2_wire.specs.Request.{HttpRequest, IsRequestOf, view_of}
use Rattle.oauth2_device.specs.DeviceToken.{DeviceToken, device_token_configuration}
use Rattle.oauth2_device.specs.Events.{PollCall, Reading, Sent, Slept, EachRequest, has_request, last_reply}

-- the error response to the token request of a device, as values (RFC 8628, 3.5)
abbrev pub DeviceError : Type 0
DeviceError = ErrorParts DeviceErrorCode

-- the Rust type of the error response to the token request of a device
abbrev pub DeviceErrorResponse : Type 0
DeviceErrorResponse = StandardErrorResponse DeviceCodeErrorResponseType

-- the values of an error response to the token request of a device
abbrev pub device_error : DeviceErrorResponse → DeviceError
device_error response = parts_of device_error_code response

-- the error of a poll
abbrev pub PollError : Type 0 → Type 0
PollError RE = RequestTokenError RE DeviceErrorResponse

-- what a reply to the token request of a device says, by this rule for its Content-Type
abbrev pub device_answer : {A : Type 0} → ReplyRule → (Data → JsonReading A) → HttpResponse
    → Answer A DeviceError
device_answer rule reading reply =
    answer_of rule reading (error_reading device_error_code_reading) (reply_of reply)

-- what an error code means to a poll: keep the interval, lengthen it, or stop (RFC 8628, 3.5)
abbrev pub class_of_code : DeviceErrorCode → PollAnswer
class_of_code authorization_pending = Pending
class_of_code slow_down = SlowDown
class_of_code access_denied = Deciding
class_of_code expired_token = Deciding
class_of_code (basic code) = Deciding

-- what a reply means to a poll: only two error codes do not decide it
abbrev pub class_of_answer : {A : Type 0} → Answer A DeviceError → PollAnswer
class_of_answer (accepted value) = Deciding
class_of_answer (refused error) = class_of_code error.error
class_of_answer (unread fault body) = Deciding
class_of_answer (other text) = Deciding

-- the error is a `ServerResponse` with the code `expired_token` and this description
abbrev pub SaysExpired : {RE : Type 0} → PollError RE → Type 0
SaysExpired (token.ServerResponse error) =
    device_error error ≡ parts_of_error expired_token (Some (codes "This device code has expired.")) None
SaysExpired error = ⊥

-- the request is the token request of this device, to its endpoint
abbrev pub IsDeviceRequest : DeviceToken → HttpRequest → Type 0
IsDeviceRequest r request =
    IsRequestOf (device_token_configuration r) (serialize r.token_url.url) (view_of request)

-- how long the device polls, in nanoseconds: the given timeout, or else the lifetime of its code
abbrev pub timeout_of : DeviceToken → Option Duration → ℕ
timeout_of r timeout = unwrap_or (option_map as_nanos timeout) r.lifetime

-- the input of the poll that had these events; the timeout is in nanoseconds
abbrev pub input_of : DeviceToken → ℕ → ℕ → List trace.TraceEvent → PollInput
input_of r timeout max_polls events = record {
  timeout = timeout;
  interval = r.interval;
  cap = r.max_backoff_interval;
  max_polls = max_polls;
  readings = readings_in events;
  answers = answers_in events;
}

module _ {A : Type 0} (says : HttpResponse → Answer A DeviceError) where
  -- what the result of a request means to a poll: a failed call, or what the reply means
  abbrev pub class_of : {RE : Type 0} → Result HttpResponse RE → PollAnswer
  class_of (Err error) = Failed
  class_of (Ok reply) = class_of_answer (says reply)

  -- the events with their times in nanoseconds, and their results as answers to the poll
  abbrev pub plain : {RE : Type 0} → List (PollCall RE) → List trace.TraceEvent
  plain [] = []
  plain (Reading t ∷ e) = trace.Reading t.nanosecond ∷ plain e
  plain (Sent r a ∷ e) = trace.Asked ∷ trace.Answered (class_of a) ∷ plain e
  plain (Slept d ∷ e) = trace.Slept (as_nanos d) ∷ plain e

module _ {D A RE : Type 0} (meaning : D → A) (says : HttpResponse → Answer A DeviceError) where
  -- the result that a poll with this ending returns
  abbrev pub IsAnswerAt : Ending → List (PollCall RE) → Result D (PollError RE) → Type 0
  IsAnswerAt trace.TooLong e result =
      IsErrAnd result (SaysOther (codes "failed to convert the timeout"))
  IsAnswerAt trace.OutOfRange e result =
      IsErrAnd result (SaysOther (codes "failed to calculate timeout"))
  IsAnswerAt (trace.Late n) e result = IsErrAnd result SaysExpired
  IsAnswerAt (trace.Decided n) e result =
      (reply : HttpResponse) × (last_reply None e ≡ Some (Ok reply)) × ShowsAnswer meaning device_error (says reply) result
  IsAnswerAt (trace.Limited n) e result =
      IsErrAnd result (SaysOther (codes "polling limit reached"))

  -- the poll ran to its end, and returned the result of that ending
  pub record IsWhole (p : PollInput) (e : List (PollCall RE)) (result : Result D (PollError RE)) : Type 0 where
    pub done : IsTraceOf p (plain says e)
    pub to_the_end : done.rest ≡ []
    pub answer : IsAnswerAt done.ending e result

  -- memory ran out: the events are the first of that poll, and the error says whether a request was
  -- sent
  pub record IsCutShort (p : PollInput) (e : List (PollCall RE)) (result : Result D (PollError RE)) : Type 0 where
    pub done : IsTraceOf p (plain says e)
    pub answer : result ≡ Err (token.Memory (has_request e))

  -- the endpoint is not an HTTP target: the poll read the clock twice, the second time not after
  -- the deadline, and sent nothing
  pub record IsUnsendable (NotHttp : Type 0) (p : PollInput) (e : List (PollCall RE)) (result : Result D (PollError RE)) : Type 0 where
    pub done : IsTraceOf p (plain says e)
    pub not_http : NotHttp
    pub start : Timestamp
    pub moment : Timestamp
    pub events : e ≡ Reading start ∷ Reading moment ∷ []
    pub in_time : ¬ (IsLate p 1)
    pub answer : IsErrAnd result (SaysOther not_http_text)

  -- the poll ran to its end, ran out of memory, or could not send its request
  abbrev pub IsPoll : Type 0 → PollInput → List (PollCall RE) → Result D (PollError RE) → Type 0
  IsPoll NotHttp p e result =
      IsWhole p e result ⊎ (IsCutShort p e result ⊎ IsUnsendable NotHttp p e result)

module _ {D A RE : Type 0} (meaning : D → A) (reading : Data → JsonReading A) (r : DeviceToken) (timeout max_polls : ℕ) where
  -- a device polled with these events and this result, for at most `timeout` nanoseconds and with
  -- at most `max_polls` requests; each request is the configured one, and sleeps and requests keep
  -- their bounds
  pub record Polls (e : List (PollCall RE)) (result : Result D (PollError RE)) : Type 0 where
    pub requests : EachRequest (IsDeviceRequest r) e
    pub poll : (let says = device_answer r.base.reply_rule reading in
        IsPoll meaning says (SpellsNone (serialize r.token_url.url)) (input_of r timeout max_polls (plain says e)) e result)
    pub paced : SleepsArePaced r.interval r.max_backoff_interval (plain (device_answer r.base.reply_rule reading) e)
    pub bounded : (let says = device_answer r.base.reply_rule reading in
        ClockIsHonest (plain says e) → RequestsFit timeout r.interval (plain says e))
