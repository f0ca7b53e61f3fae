-- The command `client_credentials`: the client asks for a token for itself (RFC 6749, 4.4.2).
use Rattle.std.specs.Prelude.{List, None}
use Rattle.oauth2_urls.specs.Addressed.{Addressed}
use Rattle.oauth2_form.specs.Params.{with_scopes}
use Rattle.oauth2.specs.NewRequest.{base_of}
use Rattle.oauth2_requests.specs.ClientCredentials.{ClientCredentialsRequest, client_credentials_configuration}
use Rattle.oauth2.specs.Settings.{Settings}
use Rattle.oauth2_request_commands.specs.Client.{WithToken}
use Rattle.oauth2_request_commands.specs.Exchange.{IsTokenShown}
use Rattle.oauth2_request_commands.specs.Out.{Output}
use Rattle.oauth2_script.specs.ClientCredentialsParams.{ClientCredentialsParams}
use Rattle.oauth2_script.specs.Replies.{Reply}

-- the token request with the scopes and the extra parameters of the command (RFC 6749, 4.4.2)
abbrev pub client_credentials_request : Settings → ClientCredentialsParams → Addressed
    → ClientCredentialsRequest
client_credentials_request client p url = record {
  base =
      record (base_of client) { scope = with_scopes None p.scopes; extra_params = p.extra_params };
  token_url = url;
}

-- the output of `client_credentials`: the request and the token or fault, or no token endpoint
abbrev pub IsClientCredentialsOutput : Settings → ClientCredentialsParams → List Reply → Output
    → Type 0
IsClientCredentialsOutput client p replies o =
    WithToken
    (λ url o. IsTokenShown client.reply_rule (client_credentials_configuration (client_credentials_request client p url)) url replies o)
    client.token_url o
