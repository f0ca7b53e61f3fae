use Rattle.std.proofs.Common.{◌≡◌, ◌++◌, take}
use Rattle.oauth2_grant_commands.proofs.exchange_token.with_resources.Given as goal

abbrev pub invariant-loop-resource : goal.invariant-loop-resource
invariant-loop-resource l = l.exchange ≡ record l.initial.exchange { resources = l.initial.exchange.resources ++ take l.resource-index l.resources }
