use Rattle.std.proofs.Common.{◌≡◌, None, map, take}
use Rattle.oauth2_pushed_requests.specs.private.Read.{pair_texts}
use Rattle.oauth2_pushed_requests.proofs.push_form.params_of.Given as goal

abbrev pub invariant-loop-pair : goal.invariant-loop-pair
invariant-loop-pair l = l.params ≡ record { scope = None; extra_params = map pair_texts (take l.pair-index l.pairs) }
