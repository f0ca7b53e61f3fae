-- The command `push`: the parameters of an authorization request are sent to the server (RFC 9126).
use Rattle.std.specs.Prelude.{◌≡◌, ℕ, List, [], ◌∷◌, ◌++◌, MatchOption, Some, codes}
use Rattle.serde_json.specs.Data.{object, no_members}
use Rattle.serde_json.specs.Written.{compact_text}
use Rattle.url.specs.Parts.{Parts, serialize}
use Rattle.url.specs.Setters.{append_query_pairs}
use Rattle.oauth2_urls.specs.Addressed.{Addressed}
use Rattle.oauth2_codes.specs.ErrorCodes.{ErrorCode, error_code_text, error_code_reading}
use Rattle.oauth2_codes.specs.ErrorResponse.{ErrorParts, error_reading}
use Rattle.oauth2_form.specs.Pairs.{Pair}
use Rattle.oauth2_json.specs.Puts.{put_all}
use Rattle.oauth2_requests.specs.Authorization.{query_pairs}
use Rattle.oauth2_wire.specs.Reply.{Answer, ReplyView}
use Rattle.oauth2_wire.specs.Request.{IsRequestOf}
use Rattle.oauth2_wire.specs.declared.content_type.ReplyRule.{ReplyRule}
use Rattle.oauth2_pushed_requests.specs.FaultText.{push_fault_text}
use Rattle.oauth2_pushed_requests.specs.Parameters.{push_fault}
use Rattle.oauth2_pushed_requests.specs.Pushed.{PushedRequest, PushingClientView, pushed_answer_of, pushed_configuration, reference_pairs}
use Rattle.oauth2_pushed_requests.specs.Response.{PushedAuthorization, pushed_rows}
use Rattle.oauth2_request_commands.specs.Authorize.{authorization}
use Rattle.oauth2_request_commands.specs.Client.{WithEndpoint, missing, settings_of}
use Rattle.oauth2_request_commands.specs.Exchange.{IsRequestShown, error_members}
use Rattle.oauth2_request_commands.specs.Out.{Output, after, failure_output, success_output}
use Rattle.oauth2_world.specs.Events.{sent_to}
use Rattle.oauth2_world.specs.declared.event.FaultKind.TheVariants.{BadPush}
use Rattle.oauth2_script.specs.Client.{Client}
use Rattle.oauth2_script.specs.PushParams.{PushParams}
use Rattle.oauth2_script.specs.Replies.{Reply}

-- the client of the script at its pushed authorization request endpoint
abbrev pub pushing_client : Client → Parts → PushingClientView
pushing_client client endpoint = record {
  auth_type = client.auth_type;
  client_id = client.id;
  client_secret = client.secret;
  reply_rule = client.reply_rule;
  endpoint = endpoint;
}

-- what is pushed: the parameters that the authorization URL would carry (RFC 9126, 2.1), and then
-- those of the assertion by which the client authenticates, if it has one (RFC 7521, 4.2)
abbrev pub pairs_to_push : Client → PushParams → Addressed → List Pair
pairs_to_push client p url =
    query_pairs (authorization (settings_of client) p.authorize url) ++ p.asserted

-- a response as compact JSON (RFC 9126, 2.2)
unfoldable pub pushed_json : PushedAuthorization → List ℕ
pushed_json r = compact_text (object (put_all (pushed_rows r) no_members))

-- the URL that the user is sent to: the authorization endpoint's with the two parameters of a request
-- that was pushed (RFC 9126, 4) behind its own query; and then the response
abbrev pub pushed_output : List ℕ → Addressed → PushedAuthorization → Output
pushed_output id url r =
    after (sent_to (serialize (append_query_pairs url.url (reference_pairs id r.request_uri))) ∷ [])
    (success_output (pushed_json r))

-- what a reply says: a response, whose status is 201 (RFC 9126, 2.2), or an error (RFC 9126, 2.3)
abbrev pub pushed_answer : ReplyRule → ReplyView → Answer PushedAuthorization (ErrorParts ErrorCode)
pushed_answer rule = pushed_answer_of rule (error_reading error_code_reading)

-- what is shown of a push: its request, and then the URL and the response, or the fault
abbrev pub IsPushShown : Addressed → PushedRequest → List Reply → Output → Type 0
IsPushShown url r =
    IsRequestShown (pushed_output r.client.client_id url) (error_members error_code_text)
    (pushed_answer r.client.reply_rule)
    (IsRequestOf (pushed_configuration r) (serialize r.client.endpoint)) r.client.endpoint

-- what is shown of a push of these parameters; no request is made if they cannot be pushed
abbrev pub IsPushedOrRefused : PushingClientView → Addressed → List Pair → List Reply → Output
    → Type 0
IsPushedOrRefused client url pairs replies o =
    MatchOption (push_fault client.client_id client.endpoint url.url (Some pairs)) (IsPushShown url (record { client = client; pairs = pairs }) replies o)
    (λ fault. o ≡ failure_output BadPush (push_fault_text fault))

-- the output of a push of the parameters for this authorization endpoint, or that the other endpoint
-- is not set
abbrev pub IsPushFor : Client → PushParams → List Reply → Addressed → Output → Type 0
IsPushFor client p replies url o =
    MatchOption client.endpoints.push (o ≡ missing (codes "pushed authorization request"))
    (λ endpoint. IsPushedOrRefused (pushing_client client endpoint) url (pairs_to_push client p url) replies o)

-- the output of `push`: that of its request, or that one of the two endpoints is not set
abbrev pub IsPushOutput : Client → PushParams → List Reply → Output → Type 0
IsPushOutput client p replies o =
    WithEndpoint (codes "authorization") (IsPushFor client p replies) client.endpoints.auth o
