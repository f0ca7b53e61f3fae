-- The command `introspect`: the client asks the server whether a token is active (RFC 7662, 2.1).
use Rattle.std.specs.Prelude.{ℕ, List, option_map, codes}
use Rattle.serde_json.specs.Data.{Data, string, object, no_members}
use Rattle.serde_json.specs.Written.{compact_text}
use Rattle.oauth2_codes.specs.Codes.{TokenCode, token_code_text, token_code_reading}
use Rattle.oauth2_codes.specs.ErrorCodes.{ErrorCode, error_code_text, error_code_reading}
use Rattle.oauth2_codes.specs.ErrorResponse.{ErrorParts, error_reading}
use Rattle.oauth2_json.specs.Puts.{put_all}
use Rattle.oauth2_introspection.specs.Introspection.{Introspection, introspection_reading, introspection_rows}
use Rattle.oauth2_replies.specs.Kept.{any_object}
use Rattle.oauth2_urls.specs.Addressed.{Addressed}
use Rattle.oauth2_wire.specs.declared.content_type.ReplyRule.{ReplyRule}
use Rattle.oauth2_wire.specs.Expected.{Configuration}
use Rattle.oauth2_wire.specs.Reply.{Answer, ReplyView, answer_of}
use Rattle.oauth2.specs.NewRequest.{base_of}
use Rattle.oauth2.specs.Settings.{Settings}
use Rattle.oauth2_requests.specs.TokenIntrospection.{TokenIntrospection, introspection_configuration}
use Rattle.oauth2_request_commands.specs.Client.{WithEndpoint}
use Rattle.oauth2_request_commands.specs.Exchange.{IsPostShown, error_members}
use Rattle.oauth2_request_commands.specs.Out.{Output}
use Rattle.oauth2_script.specs.IntrospectParams.{IntrospectParams}
use Rattle.oauth2_script.specs.Replies.{Reply}

-- the introspection request with the token, its type hint and the extra parameters (RFC 7662, 2.1)
abbrev pub introspection_request : Settings → IntrospectParams → Addressed → TokenIntrospection
introspection_request client p url = record {
  base = record (base_of client) { extra_params = p.extra_params };
  introspection_url = url;
  token = p.token;
  token_type_hint = p.hint;
}

-- an introspection response without extension members (RFC 7662, 2.2)
abbrev pub BasicIntrospection : Type 0
BasicIntrospection = Introspection (Unit {0}) TokenCode

-- an introspection response as a JSON object; absent members are left out
unfoldable pub introspection_data : BasicIntrospection → Data
introspection_data r =
    object
    (put_all (introspection_rows (option_map (λ t. string (token_code_text t)) r.token_type) r) no_members)

-- an introspection response as compact JSON
unfoldable pub introspection_json : BasicIntrospection → List ℕ
introspection_json r = compact_text (introspection_data r)

-- what a reply to an introspection request says: a response (RFC 7662, 2.2), or an error
abbrev pub introspection_answer : ReplyRule → ReplyView
    → Answer BasicIntrospection (ErrorParts ErrorCode)
introspection_answer rule =
    answer_of rule (introspection_reading any_object token_code_reading)
    (error_reading error_code_reading)

-- what is shown of an introspection request: the request, and the response or the fault
abbrev pub IsIntrospected : ReplyRule → Configuration → Addressed → List Reply → Output → Type 0
IsIntrospected rule =
    IsPostShown introspection_json (error_members error_code_text) (introspection_answer rule)

-- the output of `introspect`: that of its request, or that the endpoint is missing
abbrev pub IsIntrospectOutput : Settings → IntrospectParams → List Reply → Output → Type 0
IsIntrospectOutput client p replies o =
    WithEndpoint (codes "introspection")
    (λ url o. IsIntrospected client.reply_rule (introspection_configuration (introspection_request client p url)) url replies o)
    client.introspection_url o
