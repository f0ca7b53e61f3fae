use Rattle.std.proofs.lemmas.Result.{IfOk-weaker}
use Rattle.oauth2_commands.proofs.command.run_command.Goals as goal

pub returns-in-Code : goal.returns-in-Code
returns-in-Code c = rw c.in-Code.is c.run_code.ensures

pub returns-in-Refresh : goal.returns-in-Refresh
returns-in-Refresh c = rw c.in-Refresh.is c.run_refresh.ensures

pub returns-in-Password : goal.returns-in-Password
returns-in-Password c = rw c.in-Password.is c.run_password.ensures

pub returns-in-ClientCredentials : goal.returns-in-ClientCredentials
returns-in-ClientCredentials c = rw c.in-ClientCredentials.is c.run_client_credentials.ensures

pub returns-in-Introspect : goal.returns-in-Introspect
returns-in-Introspect c = rw c.in-Introspect.is c.run_introspect.ensures

pub returns-in-Revoke : goal.returns-in-Revoke
returns-in-Revoke c = rw c.in-Revoke.is c.run_revoke.ensures

pub returns-in-Authorize : goal.returns-in-Authorize
returns-in-Authorize c = IfOk-weaker c.run_authorize.result _ _ (λ status adds. λ fed. rw c.in-Authorize.is adds) c.run_authorize.ensures

pub returns-in-IdToken : goal.returns-in-IdToken
returns-in-IdToken c = IfOk-weaker c.run_id_token.result _ _ (λ status adds. λ fed. rw c.in-IdToken.is adds) c.run_id_token.ensures

pub returns-in-AccessToken : goal.returns-in-AccessToken
returns-in-AccessToken c = IfOk-weaker c.run_access_token.result _ _ (λ status adds. λ fed. rw c.in-AccessToken.is adds) c.run_access_token.ensures

pub returns-in-Redirect : goal.returns-in-Redirect
returns-in-Redirect c = IfOk-weaker c.run_redirect.result _ _ (λ status adds. λ fed. rw c.in-Redirect.is adds) c.run_redirect.ensures

pub returns-in-Metadata : goal.returns-in-Metadata
returns-in-Metadata c = rw c.in-Metadata.is c.run_metadata.ensures
