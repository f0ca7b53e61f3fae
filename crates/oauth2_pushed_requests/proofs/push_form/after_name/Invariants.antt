use Rattle.std.proofs.Common.{◌≡◌, length, map}
use Rattle.oauth2_pushed_requests.specs.Pushed.{after_name}
use Rattle.oauth2_pushed_requests.specs.private.Read.{pair_texts}
use Rattle.oauth2_pushed_requests.proofs.push_form.after_name.Given as goal

abbrev pub invariant-loop-rest : goal.invariant-loop-rest
invariant-loop-rest l = after_name l.name (map pair_texts l.rest) ≡ after_name l.name (map pair_texts l.pairs)

abbrev pub decreases-loop-rest : goal.decreases-loop-rest
decreases-loop-rest l = length l.rest
