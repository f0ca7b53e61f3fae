-- A request with the scopes and the parameters of a buffer.
use Rattle.std.specs.Prelude.{ℕ, List}
use Rattle.oauth2_form.specs.Params.{Params}
use Rattle.oauth2_grants.specs.Extension.{TokenClientView, ExtensionRequest}

-- the request of a client with this grant type, and with what a buffer holds
abbrev pub of_params : TokenClientView → List ℕ → Params → ExtensionRequest
of_params client grant_type params = record {
  base = record {
    auth_type = client.auth_type;
    client_id = client.client_id;
    client_secret = client.client_secret;
    scope = params.scope;
    extra_params = params.extra_params;
    reply_rule = client.reply_rule;
  };
  token_url = client.token_url;
  grant_type = grant_type;
}
