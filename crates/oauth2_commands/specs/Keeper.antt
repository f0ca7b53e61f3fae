-- The command `keeper`: a keeper of the client's token, called once at each reading.
use Rattle.std.specs.Prelude.{◌≡◌, ℕ, ℤ, pos, int_div, ◌*◌, false, Result, Ok, Err}
use Rattle.std.specs.Prelude.{List, [], ◌∷◌, ◌++◌, Option, None, option_map, unwrap_or, IsSomeAnd, codes}
use Rattle.jiff_core.specs.declared.timestamp.Timestamp.{Timestamp}
use Rattle.oauth2_codes.specs.Codes.{token_code, token_code_text}
use Rattle.oauth2_codes.specs.ErrorCodes.{error_code, error_code_text}
use Rattle.oauth2_codes.specs.ErrorResponse.{parts_of}
use Rattle.oauth2_codes.specs.declared.basic_error.BasicErrorResponseType.{BasicErrorResponseType}
use Rattle.oauth2_codes.specs.declared.error_response.StandardErrorResponse.{StandardErrorResponse}
use Rattle.oauth2_codes.specs.declared.token_type.BasicTokenType.{BasicTokenType}
use Rattle.oauth2_form.specs.Params.{with_scopes}
use Rattle.oauth2_replies.specs.Token.{Token, token_seen}
use Rattle.oauth2_replies.specs.declared.token.EmptyExtraTokenFields.{EmptyExtraTokenFields}
use Rattle.oauth2_wire.specs.declared.content_type.ReplyRule.{ReplyRule}
use Rattle.oauth2_wire.specs.declared.error.RequestTokenError.{RequestTokenError}
use Rattle.oauth2_wire.specs.Once.{AsksOnce}
use Rattle.oauth2_wire.specs.Reply.{HttpResponse}
use Rattle.oauth2_wire.specs.Request.{HttpRequest, RequestView, view_of}
use Rattle.oauth2.specs.Settings.{Settings}
use Rattle.oauth2_keeper.specs.Keeper.{AcceptedToken, Keeper, Given}
use Rattle.oauth2_keeper.specs.Patience.{Patient, PatientCalls}
use Rattle.oauth2_keeper.specs.declared.patient_keeper.PatientError.{PatientError}
use Rattle.oauth2_keeper.specs.declared.patient_keeper.PatientError.TheVariants.{Request, Waits, OtherTokenType}
use Rattle.oauth2_request_commands.specs.Client.{WithToken}
use Rattle.oauth2_request_commands.specs.Exchange.{BasicToken, error_members, token_answer}
use Rattle.oauth2_request_commands.specs.Faults.{fault_output}
use Rattle.oauth2_request_commands.specs.Out.{Output, after, nothing, both_outputs, success_output}
use Rattle.oauth2_request_commands.specs.Out.{failure_output}
use Rattle.oauth2_request_commands.specs.declared.status.RunStatus.TheVariants as status
use Rattle.oauth2_script.specs.KeeperParams.{KeeperParams}
use Rattle.oauth2_script.specs.Replies.{Reply}
use Rattle.oauth2_world.specs.Events.{Event, exchanged, waits}
use Rattle.oauth2_world.specs.Quotation.{quotation}
use Rattle.oauth2_world.specs.Replay.{reply_seen}
use Rattle.oauth2_world.specs.Replies.{next_reply, later_replies}
use Rattle.oauth2_world.specs.declared.event.FaultKind.TheVariants as kind
use Rattle.oauth2_world.specs.declared.replay.NoReply.{NoReply}

-- ---- the responses

-- a token response without extension members (RFC 6749, 5.1), as the code holds it
abbrev pub TokenResponse : Type 0
TokenResponse = Token EmptyExtraTokenFields BasicTokenType

abbrev pub token_in : TokenResponse → BasicToken
token_in response = token_seen (λ _. tt) token_code response

-- an error response (RFC 6749, 5.2), as the code holds it
abbrev pub ErrorResponse : Type 0
ErrorResponse = StandardErrorResponse BasicErrorResponseType

-- what a keeper takes from a token response; the lifetime is in nanoseconds (RFC 6749, 5.1)
abbrev pub given_in : TokenResponse → Given
given_in response = record {
  access_token = (token_in response).access_token;
  token_type = token_code_text (token_in response).token_type;
  lifetime = option_map (λ seconds. seconds * 1_000_000_000) (token_in response).expires_in;
  refresh_token = (token_in response).refresh_token;
}

-- ---- the client

-- the client of a script: the replies that are left, and the events of its calls
pub record ReplayClient : Type 0 where
  pub replies : List Reply
  pub events : List Event

-- one call of the client: it returns the next reply, or fails if that is what the script says or no
-- reply is left, and the exchange is an event
abbrev pub ReturnsNext : ReplayClient → HttpRequest → Result HttpResponse NoReply → ReplayClient
    → Type 0
ReturnsNext before request answer next =
    (reply_seen answer ≡ next_reply before.replies)
    × (next.replies ≡ later_replies before.replies)
    × (next.events ≡ before.events ++ exchanged (view_of request) (next_reply before.replies) ∷ [])

-- a request for a token: what it does to the client, and its result
abbrev pub AsksForToken : ReplyRule → (List ℕ → RequestView → Type 0) → List ℕ
    → ReplayClient → Result TokenResponse (RequestTokenError NoReply ErrorResponse)
    → ReplayClient → Type 0
AsksForToken rule = AsksOnce token_in (parts_of error_code) ReturnsNext (token_answer rule)

-- ---- what is shown

-- the output of a call that waits until this moment, in whole seconds since 1970; `None` if it is
-- outside the range of `jiff`
abbrev pub waiting : Option Timestamp → Output
waiting until = record {
  events = waits (option_map (λ moment. int_div moment.nanosecond (pos 1_000_000_000)) until) ∷ [];
  status = status.Fault;
}

-- why a keeper has no good token: the fault of its request, its wait, or the type of the token
abbrev pub KeeperFault : Type 0
KeeperFault = PatientError NoReply ErrorResponse

abbrev pub keeper_fault : KeeperFault → Output
keeper_fault (Request error) =
    fault_output (λ response. error_members error_code_text (parts_of error_code response)) error
keeper_fault (Waits until) = waiting until
keeper_fault OtherTokenType =
    failure_output kind.OtherTokenType (codes "The server gave a token of another type")

-- what is shown of a call: the kept token as a JSON string, or why there is none
abbrev pub IsShown : Option AcceptedToken → Result Unit KeeperFault → Output → Type 0
IsShown token (Ok done) o =
    IsSomeAnd token (λ token. o ≡ success_output (quotation token.access_token))
IsShown token (Err error) o = o ≡ keeper_fault error

-- ---- one call

-- the state between two calls: the keeper, and the replies that are left
pub record Standing : Type 0 where
  pub keeper : Patient
  pub replies : List Reply

-- one call: what the keeper does at this moment, with its result; and what is shown of it behind
-- the events of the client, which never tells that the server asks for a wait
unfoldable pub IsCall : Standing → ℤ → Output → Standing → Type 0
IsCall before now o kept =
    (result : Result Unit KeeperFault) × (sent : List Event) × (shown : Output)
    × PatientCalls AsksForToken given_in (λ _. None) before.keeper now
    (record { replies = before.replies; events = [] }) result
    (record { replies = kept.replies; events = sent }) kept.keeper
    × IsShown kept.keeper.keeper.token result shown × (o ≡ after sent shown)

-- ---- all calls

-- one call at each of these moments, in order
abbrev pub AreCalls : Standing → List ℤ → Output → Standing → Type 0
AreCalls before [] o kept = (o ≡ nothing) × (kept ≡ before)
AreCalls before (now ∷ moments) o kept =
    (first : Output) × (middle : Standing) × (rest : Output)
    × IsCall before now first middle × AreCalls middle moments rest kept
    × (o ≡ both_outputs first rest)

-- the keeper at the start; the scopes go with the client's own credentials (RFC 6749, 4.4.2), and
-- none with a refresh token
abbrev pub new_keeper : Settings → KeeperParams → Keeper
new_keeper client p = record {
  client = client;
  margin = p.margin;
  default_lifetime = p.life;
  scope = with_scopes None p.scopes;
  refresh_scope = None;
  extra_params = p.extra_params;
  token = None;
  refresh_token = p.refresh;
}

-- that keeper with its wait after a request that failed, in nanoseconds, and the types of tokens
-- that it hands out; a wait of 0 holds back no call
abbrev pub waiting_keeper : Keeper → Option ℕ → Option (List (List ℕ)) → Patient
waiting_keeper keeper retry_after token_types = record {
  keeper = keeper;
  token_types = token_types;
  least_wait = unwrap_or retry_after 0;
  most_asked_wait = 0;
  wait = unwrap_or retry_after 0;
  until_end = false;
  failed_at = None;
}

-- the state before the first call: it does not wait, and all replies are left
abbrev pub new_standing : Settings → KeeperParams → List Reply → Standing
new_standing client p replies =
    record { keeper = waiting_keeper (new_keeper client p) p.retry_after p.token_types; replies = replies }

-- the output of `keeper`: that of its calls, or that no token endpoint is set
abbrev pub IsKeeperOutput : Settings → KeeperParams → List ℤ → List Reply → Output → Type 0
IsKeeperOutput client p moments replies o =
    WithToken (λ _ o. (kept : Standing) × AreCalls (new_standing client p replies) moments o kept)
    client.token_url o
