-- The command `authorize`: the URL to send a user to (RFC 6749, 4.1.1).
use Rattle.std.specs.Prelude.{◌≡◌, [], ◌∷◌, ◌++◌, unwrap_or, codes}
use Rattle.url.specs.Parts.{Parts, serialize}
use Rattle.oauth2_urls.specs.Addressed.{Addressed}
use Rattle.oauth2_requests.specs.Authorization.{Authorization, query_pairs}
use Rattle.oauth2_form.specs.Query.{ExtendsQuery}
use Rattle.oauth2_wire.specs.Expected.{optional_pair}
use Rattle.oauth2.specs.Settings.{Settings}
use Rattle.oauth2_request_commands.specs.Client.{WithEndpoint, given_or}
use Rattle.oauth2_world.specs.Events.{sent_to}
use Rattle.oauth2_world.specs.Quotation.{quotation}
use Rattle.oauth2_request_commands.specs.Out.{Output, success_output, after}
use Rattle.oauth2_script.specs.AuthorizeParams.{AuthorizeParams}

-- the authorization request of the parameters; `response_type` is `code` if absent; the nonce goes
-- before the extra parameters (OpenID Connect Core 1.0, 3.1.2.1)
abbrev pub authorization : Settings → AuthorizeParams → Addressed → Authorization
authorization client p url = record {
  auth_url = url;
  client_id = client.client_id;
  state = p.state;
  response_type = unwrap_or p.response_type (codes "code");
  pkce_challenge = p.challenge;
  redirect_url = given_or p.redirect client.redirect_url;
  scopes = p.scopes;
  extra_params = optional_pair (codes "nonce") p.nonce ++ p.extra_params;
}

-- the output is the URL of the authorization endpoint with the parameters, and then the state
abbrev pub IsUrlShown : Authorization → Output → Type 0
IsUrlShown r o =
    (url : Parts) × ExtendsQuery r.auth_url.url url (query_pairs r) × (o ≡ after (sent_to (serialize url) ∷ []) (success_output (quotation r.state)))

-- the output of `authorize`: the URL and the state, or that the authorization endpoint is missing
abbrev pub IsAuthorizeOutput : Settings → AuthorizeParams → Output → Type 0
IsAuthorizeOutput client p o =
    WithEndpoint (codes "authorization") (λ url o. IsUrlShown (authorization client p url) o)
    client.auth_url o
