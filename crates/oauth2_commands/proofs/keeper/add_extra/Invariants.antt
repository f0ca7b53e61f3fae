use Rattle.std.proofs.Common.{◌≡◌, ◌++◌, map, take}
use Rattle.oauth2_wire.specs.ServerView.{pair_texts}
use Rattle.oauth2_commands.proofs.keeper.add_extra.Given as goal

abbrev pub invariant-loop-name : goal.invariant-loop-name
invariant-loop-name l = l.keeper ≡ record l.initial.keeper { extra_params = l.initial.keeper.extra_params ++ map pair_texts (take l.name-index l.extra_params) }
