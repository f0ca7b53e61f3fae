-- The command `refresh`: a refresh token is exchanged for a token (RFC 6749, 6).
use Rattle.std.specs.Prelude.{List, None}
use Rattle.oauth2_urls.specs.Addressed.{Addressed}
use Rattle.oauth2_form.specs.Params.{with_scopes}
use Rattle.oauth2.specs.NewRequest.{base_of}
use Rattle.oauth2_requests.specs.Refresh.{RefreshRequest, refresh_configuration}
use Rattle.oauth2.specs.Settings.{Settings}
use Rattle.oauth2_request_commands.specs.Client.{WithToken}
use Rattle.oauth2_request_commands.specs.Exchange.{IsTokenShown}
use Rattle.oauth2_request_commands.specs.Out.{Output}
use Rattle.oauth2_script.specs.RefreshParams.{RefreshParams}
use Rattle.oauth2_script.specs.Replies.{Reply}

-- the token request with the refresh token and the scopes (RFC 6749, 6)
abbrev pub refresh_request : Settings → RefreshParams → Addressed → RefreshRequest
refresh_request client p url = record {
  base =
      record (base_of client) { scope = with_scopes None p.scopes; extra_params = p.extra_params };
  token_url = url;
  refresh_token = p.refresh_token;
}

-- the output of `refresh`: the request and the token or the fault, or no token endpoint is set
abbrev pub IsRefreshOutput : Settings → RefreshParams → List Reply → Output → Type 0
IsRefreshOutput client p replies o =
    WithToken
    (λ url o. IsTokenShown client.reply_rule (refresh_configuration (refresh_request client p url)) url replies o)
    client.token_url o
