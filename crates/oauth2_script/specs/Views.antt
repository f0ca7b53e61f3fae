-- The views of the types of the code: what contracts see of them, with texts as bytes.
use Rattle.std.specs.Prelude.{map, option_map, string_bytes, Result, Ok, Err}
use Rattle.std.specs.Duration.{as_nanos}
use Rattle.std.specs.Int.NonZero.{non_zero_u64_get}
use Rattle.serde_json.specs.View.{view}
use Rattle.oauth2_replies.specs.Device.{device_seen}
use Rattle.oauth2_script.specs.Fault.{Fault}
use Rattle.oauth2_script.specs.Gives.{script_fault_view}
use Rattle.oauth2_script.specs.Client as client_spec
use Rattle.oauth2_script.specs.Command as command_spec
use Rattle.oauth2_script.specs.GrantCommand as grant_spec
use Rattle.oauth2_script.specs.ScriptCommand as script_command_spec
use Rattle.oauth2_script.specs.Replies as replies_spec
use Rattle.oauth2_script.specs.Script as script_spec
use Rattle.oauth2_script.specs.CodeParams as code_spec
use Rattle.oauth2_script.specs.RefreshParams as refresh_spec
use Rattle.oauth2_script.specs.PasswordParams as password_spec
use Rattle.oauth2_script.specs.ClientCredentialsParams as client_credentials_spec
use Rattle.oauth2_script.specs.DeviceAuthorizationParams as device_authorization_spec
use Rattle.oauth2_script.specs.DevicePollParams as device_poll_spec
use Rattle.oauth2_script.specs.IntrospectParams as introspect_spec
use Rattle.oauth2_script.specs.RevokeParams as revoke_spec
use Rattle.oauth2_script.specs.AuthorizeParams as authorize_spec
use Rattle.oauth2_script.specs.KeptLogin as kept_login_spec
use Rattle.oauth2_script.specs.RedirectParams as redirect_spec
use Rattle.oauth2_script.specs.KeeperParams as keeper_spec
use Rattle.oauth2_script.specs.SharedKeeperParams as shared_keeper_spec
use Rattle.oauth2_script.specs.MetadataParams as metadata_spec
use Rattle.oauth2_script.specs.IdTokenParams as id_token_spec
use Rattle.oauth2_script.specs.AccessTokenParams as access_token_spec
use Rattle.oauth2_script.specs.ExtensionParams as extension_spec
use Rattle.oauth2_script.specs.ExchangeTokenParams as exchange_token_spec
use Rattle.oauth2_script.specs.AssertionParams as assertion_spec
use Rattle.oauth2_script.specs.PushParams as push_spec
use Rattle.oauth2_script.specs.declared.code_params.CodeParams.{CodeParams}
use Rattle.oauth2_script.specs.declared.refresh_params.RefreshParams.{RefreshParams}
use Rattle.oauth2_script.specs.declared.password_params.PasswordParams.{PasswordParams}
use Rattle.oauth2_script.specs.declared.client_credentials_params.ClientCredentialsParams.{ClientCredentialsParams}
use Rattle.oauth2_script.specs.declared.device_authorization_params.DeviceAuthorizationParams.{DeviceAuthorizationParams}
use Rattle.oauth2_script.specs.declared.device_poll_params.DevicePollParams.{DevicePollParams}
use Rattle.oauth2_script.specs.declared.introspect_params.IntrospectParams.{IntrospectParams}
use Rattle.oauth2_script.specs.declared.revoke_params.RevokeParams.{RevokeParams}
use Rattle.oauth2_script.specs.declared.authorize_params.AuthorizeParams.{AuthorizeParams}
use Rattle.oauth2_script.specs.declared.redirect_params.ExpectedIssuerParam.{ExpectedIssuerParam}
use Rattle.oauth2_script.specs.declared.redirect_params.ExpectedIssuerParam.TheVariants as issuer_param
use Rattle.oauth2_script.specs.declared.kept_login.KeptLogin.{KeptLogin}
use Rattle.oauth2_script.specs.declared.redirect_params.RedirectParams.{RedirectParams}
use Rattle.oauth2_script.specs.declared.keeper_params.KeeperParams.{KeeperParams}
use Rattle.oauth2_script.specs.declared.shared_keeper_params.SharedKeeperParams.{SharedKeeperParams}
use Rattle.oauth2_script.specs.declared.metadata_params.MetadataParams.{MetadataParams}
use Rattle.oauth2_script.specs.declared.access_token_params.AccessTokenParams.{AccessTokenParams}
use Rattle.oauth2_script.specs.declared.id_token_params.IdTokenParams.{IdTokenParams}
use Rattle.oauth2_script.specs.declared.id_token_params.IssuerParam.{IssuerParam}
use Rattle.oauth2_script.specs.declared.id_token_params.IssuerParam.TheVariants.{Is, OneOf, PerTenant}
use Rattle.oauth2_script.specs.declared.extension_params.ExtensionParams.{ExtensionParams}
use Rattle.oauth2_script.specs.declared.exchange_token_params.TypedTokenParam.{TypedTokenParam}
use Rattle.oauth2_script.specs.declared.exchange_token_params.ExchangeTokenParams.{ExchangeTokenParams}
use Rattle.oauth2_script.specs.declared.assertion_params.AssertionParams.{AssertionParams}
use Rattle.oauth2_script.specs.declared.push_params.PushParams.{PushParams}
use Rattle.oauth2_script.specs.declared.client_part.ClientPart.{ClientPart}
use Rattle.oauth2_script.specs.declared.client_part.ClientEndpoints.{ClientEndpoints}
use Rattle.oauth2_script.specs.declared.command.Command.{Command}
use Rattle.oauth2_script.specs.declared.command.Command.TheVariants.{Code, Refresh, Password, ClientCredentials, Introspect, Revoke, DeviceAuthorization, DevicePoll, Authorize, Redirect, Keeper, SharedKeeper, Metadata, IdToken, AccessToken}
use Rattle.oauth2_script.specs.declared.grant_command.GrantCommand.{GrantCommand}
use Rattle.oauth2_script.specs.declared.grant_command.GrantCommand.TheVariants.{Extension, ExchangeToken, Assertion, Push}
use Rattle.oauth2_script.specs.declared.script_command.ScriptCommand.{ScriptCommand}
use Rattle.oauth2_script.specs.declared.script_command.ScriptCommand.TheVariants.{Plain, Grant}
use Rattle.oauth2_script.specs.declared.reply.HttpReply.{HttpReply}
use Rattle.oauth2_script.specs.declared.reply.Reply.{Reply}
use Rattle.oauth2_script.specs.declared.reply.Reply.TheVariants.{Replied, Failed}
use Rattle.oauth2_script.specs.declared.script.Script.{Script}
use Rattle.oauth2_script.specs.declared.script_fault.ScriptFault.{ScriptFault}

-- the parameters of the command `code` as contracts see them
abbrev pub code_view : CodeParams → code_spec.CodeParams
code_view p = record {
  code = p.code;
  verifier = p.verifier;
  redirect = p.redirect;
  extra_params = map (λ e. (string_bytes e.0, string_bytes e.1)) p.extra_params.items;
}

-- the parameters of the command `refresh` as contracts see them
abbrev pub refresh_view : RefreshParams → refresh_spec.RefreshParams
refresh_view p = record {
  refresh_token = p.refresh_token;
  scopes = p.scopes.items;
  extra_params = map (λ e. (string_bytes e.0, string_bytes e.1)) p.extra_params.items;
}

-- the parameters of the command `password` as contracts see them
abbrev pub password_view : PasswordParams → password_spec.PasswordParams
password_view p = record {
  username = p.username;
  password = p.password;
  scopes = p.scopes.items;
  extra_params = map (λ e. (string_bytes e.0, string_bytes e.1)) p.extra_params.items;
}

-- the parameters of the command `client_credentials` as contracts see them
abbrev pub client_credentials_view : ClientCredentialsParams
    → client_credentials_spec.ClientCredentialsParams
client_credentials_view p = record {
  scopes = p.scopes.items;
  extra_params = map (λ e. (string_bytes e.0, string_bytes e.1)) p.extra_params.items;
}

-- the parameters of the command `device_authorization` as contracts see them
abbrev pub device_authorization_view : DeviceAuthorizationParams
    → device_authorization_spec.DeviceAuthorizationParams
device_authorization_view p = record {
  scopes = p.scopes.items;
  extra_params = map (λ e. (string_bytes e.0, string_bytes e.1)) p.extra_params.items;
}

-- the parameters of `device_poll` as contracts see them; `timeout` and `cap` in nanoseconds
abbrev pub device_poll_view : DevicePollParams → device_poll_spec.DevicePollParams
device_poll_view p = record {
  device = device_seen (λ _. tt) p.device;
  max_polls = non_zero_u64_get p.max_polls;
  timeout = option_map as_nanos p.timeout;
  cap = option_map as_nanos p.cap;
  extra_params = map (λ e. (string_bytes e.0, string_bytes e.1)) p.extra_params.items;
}

-- the parameters of the command `introspect` as contracts see them
abbrev pub introspect_view : IntrospectParams → introspect_spec.IntrospectParams
introspect_view p = record {
  token = p.token;
  hint = option_map string_bytes p.hint;
  extra_params = map (λ e. (string_bytes e.0, string_bytes e.1)) p.extra_params.items;
}

-- the parameters of the command `revoke` as contracts see them
abbrev pub revoke_view : RevokeParams → revoke_spec.RevokeParams
revoke_view p = record {
  token = string_bytes p.token;
  kind = p.kind;
  extra_params = map (λ e. (string_bytes e.0, string_bytes e.1)) p.extra_params.items;
}

-- the parameters of the command `authorize` as contracts see them
abbrev pub authorize_view : AuthorizeParams → authorize_spec.AuthorizeParams
authorize_view p = record {
  state = p.state;
  challenge = p.challenge;
  redirect = p.redirect;
  response_type = p.response_type;
  nonce = option_map string_bytes p.nonce;
  scopes = p.scopes.items;
  extra_params = map (λ e. (string_bytes e.0, string_bytes e.1)) p.extra_params.items;
}

-- the issuer that a redirect has to name, may name, or none, as contracts see it (RFC 9207, 2.4)
abbrev pub expected_issuer_view : ExpectedIssuerParam → redirect_spec.Issuer
expected_issuer_view (issuer_param.Required text) = redirect_spec.required (string_bytes text)
expected_issuer_view (issuer_param.Compared text) = redirect_spec.compared (string_bytes text)
expected_issuer_view issuer_param.Unknown = redirect_spec.unknown

-- what was kept of a login as contracts see it
abbrev pub kept_login_view : KeptLogin → kept_login_spec.KeptLogin
kept_login_view l = record {
  client_id = l.client_id;
  token_url = l.token_url;
  redirect_uri = l.redirect_uri;
}

-- the parameters of the command `redirect` as contracts see them
abbrev pub redirect_view : RedirectParams → redirect_spec.RedirectParams
redirect_view p = record {
  state = p.state;
  redirect = p.redirect;
  login = option_map kept_login_view p.login;
  issuer = expected_issuer_view p.issuer;
}

-- the parameters of `keeper` as contracts see them; margin, life and `retry_after` in nanoseconds
abbrev pub keeper_view : KeeperParams → keeper_spec.KeeperParams
keeper_view p = record {
  margin = as_nanos p.margin;
  life = as_nanos p.life;
  refresh = p.refresh;
  scopes = p.scopes.items;
  extra_params = map (λ e. (string_bytes e.0, string_bytes e.1)) p.extra_params.items;
  retry_after = option_map as_nanos p.retry_after;
  token_types = option_map (λ names. map string_bytes names.items) p.token_types;
}

-- the parameters of the command `shared_keeper` as contracts see them
abbrev pub shared_keeper_view : SharedKeeperParams → shared_keeper_spec.SharedKeeperParams
shared_keeper_view p = record { refresh_token = p.refresh_token; steps = p.steps.items }

-- the parameters of the command `metadata` as contracts see them
abbrev pub metadata_view : MetadataParams → metadata_spec.MetadataParams
metadata_view p = record {
  issuer = string_bytes p.issuer;
  well_known = p.well_known;
  expected_issuer = option_map string_bytes p.expected_issuer;
}

-- the issuers that an ID token may name, as contracts see them
abbrev pub issuer_view : IssuerParam → id_token_spec.IssuerPart
issuer_view (Is issuer) = id_token_spec.is (string_bytes issuer)
issuer_view (OneOf issuers) = id_token_spec.one_of (map string_bytes issuers.items)
issuer_view (PerTenant before after) =
    id_token_spec.per_tenant (string_bytes before) (string_bytes after)

-- the parameters of `id_token` as contracts see them; `leeway` and `max_age` in nanoseconds
abbrev pub id_token_view : IdTokenParams → id_token_spec.IdTokenParams
id_token_view p = record {
  id_token = string_bytes p.id_token;
  access_token = p.access_token;
  issuer = issuer_view p.issuer;
  algorithm = option_map string_bytes p.algorithm;
  nonce = option_map string_bytes p.nonce;
  leeway = as_nanos p.leeway;
  keys = option_map view p.keys;
  greatest_age = option_map as_nanos p.max_age;
  other_audiences = map string_bytes p.other_audiences.items;
  authorized_parties = map string_bytes p.authorized_parties.items;
}

-- the parameters of `access_token` as contracts see them; `leeway` in nanoseconds
abbrev pub access_token_view : AccessTokenParams → access_token_spec.AccessTokenParams
access_token_view p = record {
  access_token = string_bytes p.access_token;
  issuer = string_bytes p.issuer;
  audience = string_bytes p.audience;
  keys = view p.keys;
  algorithm = option_map string_bytes p.algorithm;
  leeway = as_nanos p.leeway;
}

-- the parameters of the command `extension` as contracts see them
abbrev pub extension_view : ExtensionParams → extension_spec.ExtensionParams
extension_view p = record {
  grant_type = p.grant_type;
  scopes = p.scopes.items;
  extra_params = map (λ e. (string_bytes e.0, string_bytes e.1)) p.extra_params.items;
}

-- a token and its type as contracts see them
abbrev pub typed_token_view : TypedTokenParam → exchange_token_spec.TypedToken
typed_token_view t = record { token = string_bytes t.token; token_type = t.token_type }

-- the parameters of the command `exchange_token` as contracts see them
abbrev pub exchange_token_view : ExchangeTokenParams → exchange_token_spec.ExchangeTokenParams
exchange_token_view p = record {
  subject = typed_token_view p.subject;
  actor = option_map typed_token_view p.actor;
  requested_token_type = p.requested_token_type;
  resources = p.resources.items;
  audiences = map string_bytes p.audiences.items;
  scopes = p.scopes.items;
  extra_params = map (λ e. (string_bytes e.0, string_bytes e.1)) p.extra_params.items;
}

-- the parameters of the command `assertion` as contracts see them
abbrev pub assertion_view : AssertionParams → assertion_spec.AssertionParams
assertion_view p = record {
  kind = p.kind;
  assertion = string_bytes p.assertion;
  scopes = p.scopes.items;
  extra_params = map (λ e. (string_bytes e.0, string_bytes e.1)) p.extra_params.items;
}

-- the parameters of the command `push` as contracts see them
abbrev pub push_view : PushParams → push_spec.PushParams
push_view p = record {
  authorize = authorize_view p.authorize;
  asserted = map (λ e. (string_bytes e.0, string_bytes e.1)) p.asserted.items;
}

-- the endpoints of the client as contracts see them
abbrev pub endpoints_view : ClientEndpoints → client_spec.ClientEndpoints
endpoints_view e = record {
  auth = e.auth;
  token = e.token;
  device = e.device;
  introspection = e.introspection;
  revocation = e.revocation;
  push = e.push;
}

-- the client of the script as contracts see it
abbrev pub client_view : ClientPart → client_spec.Client
client_view c = record {
  id = c.id;
  secret = c.secret;
  auth_type = c.auth_type;
  reply_rule = c.reply_rule;
  redirect = c.redirect;
  endpoints = endpoints_view c.endpoints;
  adapters = c.adapters.items;
}

-- an HTTP reply of the script as contracts see it
abbrev pub http_reply_view : HttpReply → replies_spec.HttpReply
http_reply_view r = record {
  status = r.status;
  content_type = option_map (λ v. v.bytes) r.content_type;
  body = r.body.items;
}

-- an entry of `replies` as contracts see it: a reply, or a failed call
abbrev pub stored_reply : Reply → replies_spec.Reply
stored_reply (Replied r) = replies_spec.replied (http_reply_view r)
stored_reply Failed = replies_spec.failed

-- a command with its parameters, as contracts see it
abbrev pub command_view : Command → command_spec.Command
command_view (Code p) = command_spec.code (code_view p)
command_view (Refresh p) = command_spec.refresh (refresh_view p)
command_view (Password p) = command_spec.password (password_view p)
command_view (ClientCredentials p) = command_spec.client_credentials (client_credentials_view p)
command_view (Introspect p) = command_spec.introspect (introspect_view p)
command_view (Revoke p) = command_spec.revoke (revoke_view p)
command_view (DeviceAuthorization p) =
    command_spec.device_authorization (device_authorization_view p)
command_view (DevicePoll p) = command_spec.device_poll (device_poll_view p)
command_view (Authorize p) = command_spec.authorize (authorize_view p)
command_view (Redirect p) = command_spec.redirect (redirect_view p)
command_view (Keeper p) = command_spec.keeper (keeper_view p)
command_view (SharedKeeper p) = command_spec.shared_keeper (shared_keeper_view p)
command_view (Metadata p) = command_spec.metadata (metadata_view p)
command_view (IdToken p) = command_spec.id_token (id_token_view p)
command_view (AccessToken p) = command_spec.access_token (access_token_view p)

-- a command for a further grant or for a pushed request, as contracts see it
abbrev pub grant_view : GrantCommand → grant_spec.GrantCommand
grant_view (Extension p) = grant_spec.extension (extension_view p)
grant_view (ExchangeToken p) = grant_spec.exchange_token (exchange_token_view p)
grant_view (Assertion p) = grant_spec.assertion (assertion_view p)
grant_view (Push p) = grant_spec.push (push_view p)

-- the command of the script, with its parameters, as contracts see it
abbrev pub script_command_view : ScriptCommand → script_command_spec.ScriptCommand
script_command_view (Plain c) = script_command_spec.plain (command_view c)
script_command_view (Grant c) = script_command_spec.grant (grant_view c)

-- the whole script as contracts see it; the readings in nanoseconds since 1970
abbrev pub script_view : Script → script_spec.Script
script_view s = record {
  client = client_view s.client;
  command = script_command_view s.command;
  replies = map stored_reply s.replies.items;
  readings = map (λ t. t.nanosecond) s.readings.items;
}

-- the script that was read, or its fault, as contracts see it
abbrev pub read_view : Result Script ScriptFault → Result script_spec.Script Fault
read_view (Ok s) = Ok (script_view s)
read_view (Err f) = Err (script_fault_view f)
