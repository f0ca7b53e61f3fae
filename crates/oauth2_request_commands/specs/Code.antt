-- The command `code`: a code is exchanged for a token (RFC 6749, 4.1.3).
use Rattle.std.specs.Prelude.{List}
use Rattle.oauth2_urls.specs.Addressed.{Addressed}
use Rattle.oauth2.specs.NewRequest.{base_of}
use Rattle.oauth2_requests.specs.Code.{CodeRequest, code_configuration}
use Rattle.oauth2.specs.Settings.{Settings}
use Rattle.oauth2_request_commands.specs.Client.{WithToken, given_or}
use Rattle.oauth2_request_commands.specs.Exchange.{IsTokenShown}
use Rattle.oauth2_request_commands.specs.Out.{Output}
use Rattle.oauth2_script.specs.CodeParams.{CodeParams}
use Rattle.oauth2_script.specs.Replies.{Reply}

-- the token request with the code, redirect URI (RFC 6749, 4.1.3) and verifier (RFC 7636, 4.5)
abbrev pub code_request : Settings → CodeParams → Addressed → CodeRequest
code_request client p url = record {
  base = record (base_of client) { extra_params = p.extra_params };
  token_url = url;
  code = p.code;
  pkce_verifier = p.verifier;
  redirect_url = given_or p.redirect client.redirect_url;
}

-- the output of `code`: the request and the token or the fault, or that no token endpoint is set
abbrev pub IsCodeOutput : Settings → CodeParams → List Reply → Output → Type 0
IsCodeOutput client p replies o =
    WithToken
    (λ url o. IsTokenShown client.reply_rule (code_configuration (code_request client p url)) url replies o)
    client.token_url o
