use Rattle.std.proofs.Common.{◌≡◌, ◌-◌, ◌+◌, ◌<◌, true, length, drop, map, sym, ap, ◌∙◌, arith}
use Rattle.oauth2_wire.specs.ServerView.{pair_texts}
use Rattle.oauth2_adapters.specs.FormBodies.{has_pair}
use Rattle.oauth2_adapters.specs.private.Names.{has_name}
use Rattle.oauth2_adapters.proofs.Names.{known_name, repeated_here, repeats_whole}
use Rattle.oauth2_adapters.proofs.form_bodies.repeats.Goals as goal

pub returns-then-not-branch : goal.returns-then-not-branch
returns-then-not-branch c =
    let l = c.loop-index in
    let pairs = c.args.pairs.now in
    let name = c.as_str.result.now in
    let known : has_name l.names name ≡ true =
    known_name (has_name l.names name) (sym c.if-not-branch.true ∙ c.in_ok-add_name.ensures.added) in
    let behind : l.index - 1 + 1 ≡ l.index = omega (arith, c.loop-index-test.true) in
    let inside : l.index - 1 < length pairs = omega (arith, l.invariant.0, c.loop-index-test.true) in
    let again = ap (λ text. has_pair text (map pair_texts (drop (l.index - 1 + 1) pairs))) (sym c.as_str.ensures.value)
    ∙ ap (λ i. has_pair name (map pair_texts (drop i pairs))) behind ∙ sym (l.invariant.2 name) ∙ known in
    sym (repeats_whole pair_texts pairs (l.index - 1) (repeated_here pair_texts pairs (l.index - 1) c.index-pairs-index.result inside again))
