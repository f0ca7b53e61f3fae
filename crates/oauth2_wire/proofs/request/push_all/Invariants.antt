use Rattle.std.proofs.Common.{◌≡◌, ◌++◌, map, take}
use Rattle.form_urlencoded.specs.Form.{pair_text}
use Rattle.oauth2_wire.proofs.request.push_all.Given as goal

abbrev pub invariant-loop-name : goal.invariant-loop-name
invariant-loop-name l = l.body ≡ l.initial.body ++ map pair_text (take l.name-index l.pairs)
