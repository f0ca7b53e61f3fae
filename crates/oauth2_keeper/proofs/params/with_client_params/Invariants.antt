use Rattle.std.proofs.Common.{◌≡◌, map, take}
use Rattle.std.specs.Prelude.{option_copied}
use Rattle.oauth2_wire.specs.Texts.{param_pair}
use Rattle.oauth2_keeper.specs.private.Params.{with_params}
use Rattle.oauth2_keeper.proofs.params.with_client_params.Given as goal

abbrev pub invariant-loop-name : goal.invariant-loop-name
invariant-loop-name g l = l.request ≡ record l.fn.request { base = with_params l.fn.request.base (option_copied l.fn.scope) (map param_pair (take l.name-index l.name-items)) }
