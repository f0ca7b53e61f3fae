-- The client of a script, as the library is configured with it.
use Rattle.std.specs.Prelude.{◌≡◌, ℕ, List, ◌++◌, Option, Some, None, codes}
use Rattle.oauth2_urls.specs.Addressed.{Addressed}
use Rattle.oauth2.specs.Settings.{Settings}
use Rattle.oauth2_script.specs.Client.{Client}
use Rattle.oauth2_request_commands.specs.Out.{Output, failure_output}
use Rattle.oauth2_world.specs.declared.event.FaultKind.TheVariants.{MissingEndpoint}

-- the settings of the client that the member `client` of a script describes
abbrev pub settings_of : Client → Settings
settings_of c = record {
  client_id = c.id;
  client_secret = c.secret;
  auth_type = c.auth_type;
  reply_rule = c.reply_rule;
  redirect_url = c.redirect;
  auth_url = c.endpoints.auth;
  device_authorization_url = c.endpoints.device;
  introspection_url = c.endpoints.introspection;
  revocation_url = c.endpoints.revocation;
  token_url = c.endpoints.token;
}

-- the output of a command whose endpoint the client does not have; `name` says which endpoint
abbrev pub missing : List ℕ → Output
missing name =
    failure_output MissingEndpoint (codes "No " ++ name ++ codes " endpoint URL specified")

-- the output that `IsOutput` says for the URL of the endpoint, or that this endpoint is missing
abbrev pub WithEndpoint : List ℕ → (Addressed → Output → Type 0) → Option Addressed → Output
    → Type 0
WithEndpoint name IsOutput None o = o ≡ missing name
WithEndpoint name IsOutput (Some url) o = IsOutput url o

-- the output that `IsOutput` says for the URL of the token endpoint, or that it is missing
abbrev pub WithToken : (Addressed → Output → Type 0) → Option Addressed → Output → Type 0
WithToken = WithEndpoint (codes "token")

-- the value of the command, or the value of the client if the command has none
abbrev pub given_or : {A : Type 0} → Option A → Option A → Option A
given_or None own = own
given_or (Some a) own = Some a
