use Rattle.std.proofs.Common.{◌≡◌, false, take}
use Rattle.oauth2_commands.specs.private.Kept.{standing, CallsAdd}
use Rattle.oauth2_commands.proofs.Kept.{moments_of}
use Rattle.oauth2_commands.proofs.keeper.show_calls.Given as goal

abbrev pub invariant-loop-now : goal.invariant-loop-now
invariant-loop-now l =
    l.http_client.is_starved ≡ false
    → CallsAdd (standing l.initial.keeper l.initial.http_client) (standing l.keeper l.http_client)
    l.initial.http_client.events l.http_client.events l.status (moments_of (take l.now-index l.readings))
