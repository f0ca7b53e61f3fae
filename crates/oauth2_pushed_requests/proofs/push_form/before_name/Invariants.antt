use Rattle.std.proofs.Common.{◌≡◌, ◌++◌, drop, map}
use Rattle.form_urlencoded.specs.Form.{pair_text}
use Rattle.oauth2_pushed_requests.specs.Pushed.{before_name}
use Rattle.oauth2_pushed_requests.specs.private.Read.{pair_texts}
use Rattle.oauth2_pushed_requests.proofs.push_form.before_name.Given as goal

abbrev pub invariant-loop-pair : goal.invariant-loop-pair
invariant-loop-pair l =
    map pair_text l.before.items ++ before_name l.name (map pair_texts (drop l.pair-index l.pairs)) ≡ before_name l.name (map pair_texts l.pairs)
