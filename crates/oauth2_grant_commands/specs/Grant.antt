-- The commands of a script for further grants and for a pushed request.
use Rattle.std.specs.Prelude.{List}
use Rattle.oauth2_request_commands.specs.Out.{Output}
use Rattle.oauth2_grant_commands.specs.Assertion.{IsAssertionOutput}
use Rattle.oauth2_grant_commands.specs.ExchangeToken.{IsExchangeTokenOutput}
use Rattle.oauth2_grant_commands.specs.Extension.{IsExtensionOutput}
use Rattle.oauth2_grant_commands.specs.Push.{IsPushOutput}
use Rattle.oauth2_script.specs.Client.{Client}
use Rattle.oauth2_script.specs.GrantCommand.{GrantCommand, extension, exchange_token, assertion, push}
use Rattle.oauth2_script.specs.Replies.{Reply}

-- the output of a command, if the calls of its client return these replies
abbrev pub IsGrantOutput : Client → List Reply → GrantCommand → Output → Type 0
IsGrantOutput client replies (extension p) o = IsExtensionOutput client p replies o
IsGrantOutput client replies (exchange_token p) o = IsExchangeTokenOutput client p replies o
IsGrantOutput client replies (assertion p) o = IsAssertionOutput client p replies o
IsGrantOutput client replies (push p) o = IsPushOutput client p replies o
