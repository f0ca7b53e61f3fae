-- The command of a script: one of `Command`, or one of `GrantCommand`.
use Rattle.std.specs.Prelude.{ℕ, List, if◌then◌else◌, codes}
use Rattle.std.specs.Str.{bytes_eq}
use Rattle.serde_json.specs.Data.{Data}
use Rattle.oauth2_script_values.specs.Reading.{Reading, map_read}
use Rattle.oauth2_script_values.specs.Part.{of_params}
use Rattle.oauth2_script.specs.AssertionParams.{assertion_params}
use Rattle.oauth2_script.specs.Command.{Command, command_of}
use Rattle.oauth2_script.specs.ExchangeTokenParams.{exchange_token_params}
use Rattle.oauth2_script.specs.ExtensionParams.{extension_params}
use Rattle.oauth2_script.specs.GrantCommand.{GrantCommand, extension, exchange_token, assertion, push}
use Rattle.oauth2_script.specs.PushParams.{push_params}

-- the command of a script, with its parameters
pub data ScriptCommand : Type 0 where
  plain : Command → ScriptCommand
  grant : GrantCommand → ScriptCommand

-- the command of this name, with its parameters read from `params`
unfoldable pub script_command_of : List ℕ → Data → Reading ScriptCommand
script_command_of name params =
    if bytes_eq name (codes "extension") then map_read (λ p. grant (extension p)) (of_params extension_params params)
    else (if bytes_eq name (codes "exchange_token") then map_read (λ p. grant (exchange_token p)) (of_params exchange_token_params params)
    else (if bytes_eq name (codes "assertion") then map_read (λ p. grant (assertion p)) (of_params assertion_params params)
    else (if bytes_eq name (codes "push") then map_read (λ p. grant (push p)) (of_params push_params params)
    else map_read plain (command_of name params))))
