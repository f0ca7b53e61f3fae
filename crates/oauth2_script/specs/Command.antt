-- The commands of a script, and their names.
use Rattle.std.specs.Prelude.{ℕ, List, if◌then◌else◌, codes}
use Rattle.std.specs.Str.{bytes_eq}
use Rattle.serde_json.specs.Data.{Data}
use Rattle.oauth2_script_values.specs.Reading.{Reading, map_read, bad_member}
use Rattle.oauth2_script_values.specs.Part.{of_params}
use Rattle.oauth2_script_values.specs.declared.script_cause.ScriptCause.TheVariants.{UnknownWord}
use Rattle.oauth2_script.specs.AccessTokenParams.{AccessTokenParams, access_token_params}
use Rattle.oauth2_script.specs.AuthorizeParams.{AuthorizeParams, authorize_params}
use Rattle.oauth2_script.specs.ClientCredentialsParams.{ClientCredentialsParams, client_credentials_params}
use Rattle.oauth2_script.specs.CodeParams.{CodeParams, code_params}
use Rattle.oauth2_script.specs.DeviceAuthorizationParams.{DeviceAuthorizationParams, device_authorization_params}
use Rattle.oauth2_script.specs.DevicePollParams.{DevicePollParams, device_poll_params}
use Rattle.oauth2_script.specs.IdTokenParams.{IdTokenParams, id_token_params}
use Rattle.oauth2_script.specs.IntrospectParams.{IntrospectParams, introspect_params}
use Rattle.oauth2_script.specs.KeeperParams.{KeeperParams, keeper_params}
use Rattle.oauth2_script.specs.MetadataParams.{MetadataParams, metadata_params}
use Rattle.oauth2_script.specs.PasswordParams.{PasswordParams, password_params}
use Rattle.oauth2_script.specs.RedirectParams.{RedirectParams, redirect_params}
use Rattle.oauth2_script.specs.RefreshParams.{RefreshParams, refresh_params}
use Rattle.oauth2_script.specs.RevokeParams.{RevokeParams, revoke_params}
use Rattle.oauth2_script.specs.SharedKeeperParams.{SharedKeeperParams, shared_keeper_params}

-- a command with its parameters
pub data Command : Type 0 where
  code : CodeParams → Command
  refresh : RefreshParams → Command
  password : PasswordParams → Command
  client_credentials : ClientCredentialsParams → Command
  introspect : IntrospectParams → Command
  revoke : RevokeParams → Command
  device_authorization : DeviceAuthorizationParams → Command
  device_poll : DevicePollParams → Command
  authorize : AuthorizeParams → Command
  redirect : RedirectParams → Command
  keeper : KeeperParams → Command
  shared_keeper : SharedKeeperParams → Command
  metadata : MetadataParams → Command
  id_token : IdTokenParams → Command
  access_token : AccessTokenParams → Command

-- the command of this name, with its parameters read from `params`
unfoldable pub command_of : List ℕ → Data → Reading Command
command_of name params =
    if bytes_eq name (codes "code") then map_read code (of_params code_params params)
    else (if bytes_eq name (codes "refresh") then map_read refresh (of_params refresh_params params)
    else (if bytes_eq name (codes "password") then map_read password (of_params password_params params)
    else (if bytes_eq name (codes "client_credentials") then map_read client_credentials (of_params client_credentials_params params)
    else (if bytes_eq name (codes "introspect") then map_read introspect (of_params introspect_params params)
    else (if bytes_eq name (codes "revoke") then map_read revoke (of_params revoke_params params)
    else (if bytes_eq name (codes "device_authorization") then map_read device_authorization (of_params device_authorization_params params)
    else (if bytes_eq name (codes "device_poll") then map_read device_poll (of_params device_poll_params params)
    else (if bytes_eq name (codes "authorize") then map_read authorize (of_params authorize_params params)
    else (if bytes_eq name (codes "redirect") then map_read redirect (of_params redirect_params params)
    else (if bytes_eq name (codes "keeper") then map_read keeper (of_params keeper_params params)
    else (if bytes_eq name (codes "shared_keeper") then map_read shared_keeper (of_params shared_keeper_params params)
    else (if bytes_eq name (codes "metadata") then map_read metadata (of_params metadata_params params)
    else (if bytes_eq name (codes "id_token") then map_read id_token (of_params id_token_params params)
    else (if bytes_eq name (codes "access_token") then map_read access_token (of_params access_token_params params)
    else bad_member (codes "command") UnknownWord))))))))))))))
