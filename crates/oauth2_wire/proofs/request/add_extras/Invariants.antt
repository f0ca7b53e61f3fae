use Rattle.std.proofs.Common.{◌≡◌, ◌++◌, map, take}
use Rattle.oauth2_wire.specs.Texts.{param_pair}
use Rattle.oauth2_wire.proofs.request.add_extras.Given as goal

abbrev pub invariant-loop-name : goal.invariant-loop-name
invariant-loop-name l = l.buffer ≡ record l.initial.buffer { extra_params = l.initial.buffer.extra_params ++ map param_pair (take l.name-index l.extra_params) }
