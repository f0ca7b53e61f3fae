-- The output of a run over an input: what it writes, and how it ends.
use Rattle.std.specs.Prelude.{◌≡◌, ℕ, List, [], ◌∷◌, Result, Ok, Err}
use Rattle.oauth2.specs.Settings.{Settings}
use Rattle.oauth2_request_commands.specs.Authorize.{IsAuthorizeOutput}
use Rattle.oauth2_request_commands.specs.ClientCredentials.{IsClientCredentialsOutput}
use Rattle.oauth2_request_commands.specs.Code.{IsCodeOutput}
use Rattle.oauth2_world.specs.Adapted.{adapted_replies}
use Rattle.oauth2_world.specs.Clock.{Clock, new_clock}
use Rattle.oauth2_request_commands.specs.DeviceAuthorization.{IsDeviceAuthorizationOutput}
use Rattle.oauth2_request_commands.specs.DevicePoll.{IsDevicePollOutput}
use Rattle.oauth2_grant_commands.specs.Grant.{IsGrantOutput}
use Rattle.oauth2_commands.specs.AccessToken.{IsAccessTokenOutput}
use Rattle.oauth2_commands.specs.IdToken.{IsIdTokenOutput}
use Rattle.oauth2_request_commands.specs.Introspect.{IsIntrospectOutput}
use Rattle.oauth2_commands.specs.Keeper.{IsKeeperOutput}
use Rattle.oauth2_shared_keeper_command.specs.SharedKeeper.{IsSharedKeeperOutput}
use Rattle.oauth2_commands.specs.Metadata.{IsMetadataOutput}
use Rattle.oauth2_request_commands.specs.Password.{IsPasswordOutput}
use Rattle.oauth2_commands.specs.Redirect.{IsRedirectOutput}
use Rattle.oauth2_request_commands.specs.Refresh.{IsRefreshOutput}
use Rattle.oauth2_request_commands.specs.Revoke.{IsRevokeOutput}
use Rattle.oauth2_world.specs.Events.{Event, bad_script}
use Rattle.oauth2_request_commands.specs.Out.{Output}
use Rattle.oauth2_script.specs.Command.{Command, code, refresh, password, client_credentials, introspect, revoke, device_authorization, device_poll, keeper, shared_keeper, metadata, id_token, access_token, authorize, redirect}
use Rattle.oauth2_script.specs.Client.{Client}
use Rattle.oauth2_script.specs.Fault.{Fault}
use Rattle.oauth2_script.specs.Form.{form_in}
use Rattle.oauth2_script.specs.Script.{Script, script_in}
use Rattle.oauth2_script.specs.ScriptCommand.{ScriptCommand, plain, grant}
use Rattle.oauth2_request_commands.specs.Client.{settings_of}
use Rattle.oauth2_script.specs.Replies.{Reply}
use Rattle.oauth2_results.specs.Result.{text_in}
use Rattle.oauth2_request_commands.specs.declared.status.RunStatus.{RunStatus}
use Rattle.oauth2_request_commands.specs.declared.status.RunStatus.TheVariants as status

-- the output of each command, with this client, this clock and these replies
abbrev pub IsCommandOutput : Settings → Clock → List Reply → Command → Output → Type 0
IsCommandOutput client clock replies (code p) o = IsCodeOutput client p replies o
IsCommandOutput client clock replies (refresh p) o = IsRefreshOutput client p replies o
IsCommandOutput client clock replies (password p) o = IsPasswordOutput client p replies o
IsCommandOutput client clock replies (client_credentials p) o =
    IsClientCredentialsOutput client p replies o
IsCommandOutput client clock replies (introspect p) o = IsIntrospectOutput client p replies o
IsCommandOutput client clock replies (revoke p) o = IsRevokeOutput client p replies o
IsCommandOutput client clock replies (device_authorization p) o =
    IsDeviceAuthorizationOutput client p replies o
IsCommandOutput client clock replies (device_poll p) o = IsDevicePollOutput client p clock replies o
IsCommandOutput client clock replies (keeper p) o = IsKeeperOutput client p clock.moments replies o
IsCommandOutput client clock replies (shared_keeper p) o = IsSharedKeeperOutput client p replies o
IsCommandOutput client clock replies (metadata p) o = IsMetadataOutput client p replies o
IsCommandOutput client clock replies (id_token p) o = IsIdTokenOutput client p clock o
IsCommandOutput client clock replies (access_token p) o = IsAccessTokenOutput p clock o
IsCommandOutput client clock replies (authorize p) o = IsAuthorizeOutput client p o
IsCommandOutput client clock replies (redirect p) o = IsRedirectOutput client p o

-- the output of the command of a script, of either kind
abbrev pub IsRunOutput : Client → Clock → List Reply → ScriptCommand → Output → Type 0
IsRunOutput client clock replies (plain command) o =
    IsCommandOutput (settings_of client) clock replies command o
IsRunOutput client clock replies (grant command) o = IsGrantOutput client replies command o

-- the output for an input that is not a script, by its first bad member
abbrev pub bad_output : Fault → Output
bad_output fault = record { events = bad_script fault ∷ []; status = status.BadScript }

-- the output of a script, or for what is wrong with the input
abbrev pub IsScriptOutput : Result Script Fault → Output → Type 0
IsScriptOutput (Err fault) o = o ≡ bad_output fault
IsScriptOutput (Ok s) o =
    IsRunOutput s.client (new_clock s.readings) (adapted_replies s.client.adapters s.replies)
    s.command o

-- these are the events and the status of an output that `IsOutput` allows
abbrev pub Shows : List Event → RunStatus → (Output → Type 0) → Type 0
Shows events s IsOutput = (o : Output) × IsOutput o × (events ≡ o.events) × (s ≡ o.status)

-- the output of a run over this input. The input determines it, with two exceptions: the target of
-- a request, which is one that the text of its URL has; and where memory runs out inside a call of
-- the client (before the request, after it, or at some point of a poll), when the call ends with
-- `no_memory_output`
unfoldable pub IsOutputOf : List ℕ → Output → Type 0
IsOutputOf input o = IsScriptOutput (script_in input) o

-- `written` is the text of an output of this input, in the form that the input asks for, and `s` is
-- its status
abbrev pub IsResultOf : List ℕ → List ℕ → RunStatus → Type 0
IsResultOf input written s =
    (o : Output) × IsOutputOf input o × (written ≡ text_in (form_in input) o.events) × (s ≡ o.status)
