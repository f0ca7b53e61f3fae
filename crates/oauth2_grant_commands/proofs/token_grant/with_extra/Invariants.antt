use Rattle.std.proofs.Common.{◌≡◌, false, map, take}
use Rattle.oauth2_grants.specs.Extension.{with_params}
use Rattle.oauth2_wire.specs.ServerView.{pair_texts}
use Rattle.oauth2_grant_commands.specs.TokenGrant.{has_taken_name}
use Rattle.oauth2_grant_commands.proofs.token_grant.with_extra.Given as goal

abbrev pub invariant-loop-name : goal.invariant-loop-name
invariant-loop-name g l =
    (has_taken_name (map pair_texts (take l.name-index l.extra)) ≡ false)
    × (l.request ≡ with_params l.initial.request (map pair_texts (take l.name-index l.extra)))
