use Rattle.std.proofs.Common.{◌≡◌, ◌++◌, map, take}
use Rattle.oauth2_wire.specs.ServerView.{pair_texts}
use Rattle.oauth2_request_commands.proofs.extra.with_extra.Given as goal

abbrev pub invariant-loop-name : goal.invariant-loop-name
invariant-loop-name g l = l.request ≡ g.T.Extensible.with_params l.initial.request (λ own. own ++ map pair_texts (take l.name-index l.extra_params))
