-- Requests for a token by a grant type that is a URI (RFC 6749, 4.5).
use Rattle.std.specs.Prelude.{◌≡◌, ℕ, Bool, List, MatchBool}
use Rattle.std.specs.List.{list_any}
use Rattle.oauth2_urls.specs.Addressed.{Addressed}
use Rattle.oauth2_form.specs.Pairs.{Pair}
use Rattle.oauth2_form.specs.Params.{with_scopes}
use Rattle.oauth2_grants.specs.Extension.{ExtensionRequest, TokenClientView, extension_configuration, is_taken, with_params}
use Rattle.oauth2_grants.specs.GrantText.{grant_fault_text}
use Rattle.oauth2_grants.specs.declared.grant_fault.GrantFault.TheVariants.{NameIsTaken}
use Rattle.oauth2_request_commands.specs.Exchange.{IsTokenShown}
use Rattle.oauth2_request_commands.specs.Out.{Output, failure_output}
use Rattle.oauth2_script.specs.Client.{Client}
use Rattle.oauth2_script.specs.Replies.{Reply}
use Rattle.oauth2_world.specs.declared.event.FaultKind.TheVariants.{TakenParameter}

-- the client of the script at this token endpoint
abbrev pub token_client : Client → Addressed → TokenClientView
token_client client url = record {
  auth_type = client.auth_type;
  client_id = client.id;
  client_secret = client.secret;
  reply_rule = client.reply_rule;
  token_url = url;
}

-- the request with these scopes (RFC 6749, 3.3)
abbrev pub request_with_scopes : ExtensionRequest → List (List ℕ) → ExtensionRequest
request_with_scopes r scopes =
    record r { base = record r.base { scope = with_scopes r.base.scope scopes } }

-- one of these parameters has a name that the request sends itself
abbrev pub has_taken_name : List Pair → Bool
has_taken_name extra = list_any (λ pair. is_taken pair.0) extra

-- the output that `IsOutput` says of the request with these parameters after its own; no request is
-- made if one of them has a name that the request sends itself
abbrev pub WithExtra : (ExtensionRequest → Output → Type 0) → ExtensionRequest → List Pair → Output
    → Type 0
WithExtra IsOutput r extra o =
    MatchBool (has_taken_name extra)
    (o ≡ failure_output TakenParameter (grant_fault_text NameIsTaken))
    (IsOutput (with_params r extra) o)

-- the output of a request: the request, and the token (RFC 6749, 5.1) or the fault
abbrev pub IsTokenAsked : List Reply → ExtensionRequest → Output → Type 0
IsTokenAsked replies r o =
    IsTokenShown r.base.reply_rule (extension_configuration r) r.token_url replies o
