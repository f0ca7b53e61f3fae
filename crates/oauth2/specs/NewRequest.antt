-- The requests that a client starts, before anything is added to them.
use Rattle.std.specs.Prelude.{◌≡◌, ℕ, List, [], codes, Option, None}
use Rattle.oauth2_urls.specs.Addressed.{Addressed}
use Rattle.oauth2_device.specs.DeviceToken.{DeviceToken, new_device_token}
use Rattle.oauth2_replies.specs.Device.{DeviceAuthorization}
use Rattle.oauth2_requests.specs.Authorization.{Authorization}
use Rattle.oauth2_requests.specs.Base.{Base}
use Rattle.oauth2_requests.specs.ClientCredentials.{ClientCredentialsRequest}
use Rattle.oauth2_requests.specs.Code.{CodeRequest}
use Rattle.oauth2_requests.specs.DeviceAuthorization.{DeviceRequest}
use Rattle.oauth2_requests.specs.Password.{PasswordRequest}
use Rattle.oauth2_requests.specs.Refresh.{RefreshRequest}
use Rattle.oauth2_requests.specs.TokenIntrospection.{TokenIntrospection}
use Rattle.oauth2_requests.specs.TokenRevocation.{TokenRevocation}
use Rattle.oauth2.specs.Settings.{Settings}

-- the `Base` of every request of this client, with no scope and no extra parameter yet
abbrev pub base_of : Settings → Base
base_of client = record {
  auth_type = client.auth_type;
  client_id = client.client_id;
  client_secret = client.client_secret;
  scope = None;
  extra_params = [];
  reply_rule = client.reply_rule;
}

-- an authorization request to this endpoint with this state (RFC 6749, 4.1.1)
abbrev pub new_authorization : Settings → Addressed → List ℕ → Authorization
new_authorization client url state = record {
  auth_url = url;
  client_id = client.client_id;
  state = state;
  response_type = codes "code";
  pkce_challenge = None;
  redirect_url = client.redirect_url;
  scopes = [];
  extra_params = [];
}

-- a request for an authorization code, whose state is one that the state function may return
abbrev pub IsAuthorization : (List ℕ → Type 0) → Settings → Addressed → Authorization → Type 0
IsAuthorization IsState client url r = IsState r.state × (r ≡ new_authorization client url r.state)

-- a request for a token by this authorization code (RFC 6749, 4.1.3)
abbrev pub new_code_request : Settings → Addressed → List ℕ → CodeRequest
new_code_request client url code = record {
  base = base_of client;
  token_url = url;
  code = code;
  pkce_verifier = None;
  redirect_url = client.redirect_url;
}

-- a request for a token by this refresh token (RFC 6749, 6)
abbrev pub new_refresh_request : Settings → Addressed → List ℕ → RefreshRequest
new_refresh_request client url refresh_token = record {
  base = base_of client;
  token_url = url;
  refresh_token = refresh_token;
}

-- a request for a token by the name and the password of a resource owner (RFC 6749, 4.3.2)
abbrev pub new_password_request : Settings → Addressed → List ℕ → List ℕ → PasswordRequest
new_password_request client url username password = record {
  base = base_of client;
  token_url = url;
  username = username;
  password = password;
}

-- a request for a token by the credentials of the client (RFC 6749, 4.4.2)
abbrev pub new_client_credentials_request : Settings → Addressed → ClientCredentialsRequest
new_client_credentials_request client url = record {
  base = base_of client;
  token_url = url;
}

-- a device authorization request (RFC 8628, 3.1)
abbrev pub new_device_request : Settings → Addressed → DeviceRequest
new_device_request client url = record {
  base = base_of client;
  device_authorization_url = url;
}

-- the token request of the device that received this response (RFC 8628, 3.4)
abbrev pub new_device_token_request : {EF : Type 0} → Settings → Addressed → DeviceAuthorization EF
    → DeviceToken
new_device_token_request client url response = new_device_token (base_of client) url response

-- an introspection request for this token (RFC 7662, 2.1)
abbrev pub new_introspection_request : Settings → Addressed → List ℕ → TokenIntrospection
new_introspection_request client url token = record {
  base = base_of client;
  introspection_url = url;
  token = token;
  token_type_hint = None;
}

-- a revocation request for the token with this text and this hint (RFC 7009, 2.1)
abbrev pub new_revocation_request : Settings → Addressed → List ℕ → Option (List ℕ)
    → TokenRevocation
new_revocation_request client url token token_type_hint = record {
  base = base_of client;
  revocation_url = url;
  token = token;
  token_type_hint = token_type_hint;
}
