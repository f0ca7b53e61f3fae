use Rattle.std.proofs.Common.{◌≡◌, ◌++◌, map}
use Rattle.form_urlencoded.specs.Form.{decode}
use Rattle.form_urlencoded.specs.Parse.{raw_pairs_left}
use Rattle.oauth2_form.specs.Pairs.{form}
use Rattle.oauth2_wire.specs.ServerView.{pair_texts, shown_pair}
use Rattle.oauth2_adapters.proofs.form_bodies.read_form.Given as goal

abbrev pub invariant-loop-name : goal.invariant-loop-name
invariant-loop-name l =
    map pair_texts l.pairs.items ++ map shown_pair (map (λ (name, value). (decode name, decode value)) (raw_pairs_left l.name-iterator)) ≡ map shown_pair (form l.fn.body)
