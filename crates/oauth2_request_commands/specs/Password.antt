-- The command `password`: the name and the password of a resource owner are exchanged for a token
-- (RFC 6749, 4.3.2).
use Rattle.std.specs.Prelude.{List, None}
use Rattle.oauth2_urls.specs.Addressed.{Addressed}
use Rattle.oauth2_form.specs.Params.{with_scopes}
use Rattle.oauth2.specs.NewRequest.{base_of}
use Rattle.oauth2_requests.specs.Password.{PasswordRequest, password_configuration}
use Rattle.oauth2.specs.Settings.{Settings}
use Rattle.oauth2_request_commands.specs.Client.{WithToken}
use Rattle.oauth2_request_commands.specs.Exchange.{IsTokenShown}
use Rattle.oauth2_request_commands.specs.Out.{Output}
use Rattle.oauth2_script.specs.PasswordParams.{PasswordParams}
use Rattle.oauth2_script.specs.Replies.{Reply}

-- the token request with the name, the password and the scopes (RFC 6749, 4.3.2)
abbrev pub password_request : Settings → PasswordParams → Addressed → PasswordRequest
password_request client p url = record {
  base =
      record (base_of client) { scope = with_scopes None p.scopes; extra_params = p.extra_params };
  token_url = url;
  username = p.username;
  password = p.password;
}

-- the output of `password`: the request and the token or the fault, or no token endpoint is set
abbrev pub IsPasswordOutput : Settings → PasswordParams → List Reply → Output → Type 0
IsPasswordOutput client p replies o =
    WithToken
    (λ url o. IsTokenShown client.reply_rule (password_configuration (password_request client p url)) url replies o)
    client.token_url o
