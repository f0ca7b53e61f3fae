-- The command `exchange_token`: a token is exchanged for another one (RFC 8693, 2.1).
use Rattle.std.specs.Prelude.{ℕ, List, option_map}
use Rattle.serde_json.specs.Data.{Data, string, object}
use Rattle.serde_json.specs.Written.{compact_text}
use Rattle.oauth2_urls.specs.Addressed.{Addressed}
use Rattle.oauth2_codes.specs.Codes.{TokenCode, token_code_text, token_code_reading}
use Rattle.oauth2_codes.specs.ErrorResponse.{ErrorParts, error_reading}
use Rattle.oauth2_json.specs.Puts.{put_all}
use Rattle.oauth2_replies.specs.Token.{Token, token_reading, token_rows}
use Rattle.oauth2_wire.specs.Reply.{Answer, ReplyView, answer_of}
use Rattle.oauth2_wire.specs.declared.content_type.ReplyRule.{ReplyRule}
use Rattle.oauth2_grants.specs.ExchangeErrors.{ExchangeErrorCode, exchange_error_code_reading, exchange_error_code_text}
use Rattle.oauth2_grants.specs.ExchangeFields.{exchange_fields, exchange_fields_reading}
use Rattle.oauth2_grants.specs.Extension.{ExtensionRequest, extension_configuration, new_extension_request, with_params}
use Rattle.oauth2_grants.specs.TokenExchange as exchange
use Rattle.oauth2_request_commands.specs.Client.{WithToken}
use Rattle.oauth2_request_commands.specs.Exchange.{IsPostShown, error_members}
use Rattle.oauth2_request_commands.specs.Out.{Output}
use Rattle.oauth2_grant_commands.specs.TokenGrant.{WithExtra, request_with_scopes, token_client}
use Rattle.oauth2_script.specs.Client.{Client}
use Rattle.oauth2_script.specs.ExchangeTokenParams.{ExchangeTokenParams, TypedToken}
use Rattle.oauth2_script.specs.Replies.{Reply}

-- a token of the command, with its type (RFC 8693, 3)
abbrev pub typed_token : TypedToken → exchange.TypedToken
typed_token t = record { token = t.token; token_type = t.token_type }

-- the exchange that the command asks for (RFC 8693, 2.1)
abbrev pub exchange_of : ExchangeTokenParams → exchange.Exchange
exchange_of p = record {
  resources = p.resources;
  audiences = p.audiences;
  requested_token_type = p.requested_token_type;
  subject = typed_token p.subject;
  actor = option_map typed_token p.actor;
}

-- the request of that exchange, with the scopes of the command (RFC 8693, 2.1)
abbrev pub exchange_request : Client → ExchangeTokenParams → Addressed → ExtensionRequest
exchange_request client p url =
    let start = new_extension_request (token_client client url) exchange.token_exchange_grant in
    request_with_scopes (with_params start (exchange.token_exchange_pairs (exchange_of p))) p.scopes

-- a response to an exchange, with the type of the token that was issued (RFC 8693, 2.2.1)
abbrev pub ExchangeAnswer : Type 0
ExchangeAnswer = Token (List ℕ) TokenCode

-- a response as a JSON object; absent members are left out
unfoldable pub exchange_data : ExchangeAnswer → Data
exchange_data r =
    object
    (put_all (token_rows (string (token_code_text r.token_type)) r) (exchange_fields r.extra_fields))

-- a response as compact JSON
unfoldable pub exchange_json : ExchangeAnswer → List ℕ
exchange_json r = compact_text (exchange_data r)

-- what a reply says: a response (RFC 8693, 2.2.1), or an error, which may be `invalid_target` (2.2.2)
abbrev pub exchange_answer : ReplyRule → ReplyView
    → Answer ExchangeAnswer (ErrorParts ExchangeErrorCode)
exchange_answer rule =
    answer_of rule (token_reading exchange_fields_reading token_code_reading)
    (error_reading exchange_error_code_reading)

-- the output of a request: the request, and the response or the fault
abbrev pub IsExchangeAsked : List Reply → ExtensionRequest → Output → Type 0
IsExchangeAsked replies r o =
    IsPostShown exchange_json (error_members exchange_error_code_text)
    (exchange_answer r.base.reply_rule)
    (extension_configuration r) r.token_url replies o

-- the output of `exchange_token`: that of its request, or that no token endpoint is set
abbrev pub IsExchangeTokenOutput : Client → ExchangeTokenParams → List Reply → Output → Type 0
IsExchangeTokenOutput client p replies o =
    WithToken
    (λ url o. WithExtra (IsExchangeAsked replies) (exchange_request client p url) p.extra_params o)
    client.endpoints.token o
