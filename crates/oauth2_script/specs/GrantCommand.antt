-- The commands of a script for further grants and for pushed requests.
use Rattle.oauth2_script.specs.AssertionParams.{AssertionParams}
use Rattle.oauth2_script.specs.ExchangeTokenParams.{ExchangeTokenParams}
use Rattle.oauth2_script.specs.ExtensionParams.{ExtensionParams}
use Rattle.oauth2_script.specs.PushParams.{PushParams}

-- a command for a grant that is a URI, or for a pushed request, with its parameters
pub data GrantCommand : Type 0 where
  extension : ExtensionParams → GrantCommand
  exchange_token : ExchangeTokenParams → GrantCommand
  assertion : AssertionParams → GrantCommand
  push : PushParams → GrantCommand
