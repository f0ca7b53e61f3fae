use Rattle.std.proofs.Common.{◌≡◌, ◌++◌, map, string_bytes, take}
use Rattle.oauth2_grant_commands.proofs.exchange_token.with_audiences.Given as goal

abbrev pub invariant-loop-audience : goal.invariant-loop-audience
invariant-loop-audience l = l.exchange ≡ record l.initial.exchange { audiences = l.initial.exchange.audiences ++ map string_bytes (take l.audience-index l.audiences) }
