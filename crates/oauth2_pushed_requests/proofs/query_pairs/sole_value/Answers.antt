use Rattle.std.proofs.Common.{◌≡◌, ◌∙◌, ◌++◌, ◌∷◌, ◌+◌, List, String, Global, ap, sym, drop, map, filter}
use Rattle.std.proofs.lemmas.List.{at_drop_more}
use Rattle.oauth2_form.specs.Pairs.{Pair}
use Rattle.oauth2_wire.specs.ByName.{bears}
use Rattle.oauth2_pushed_requests.specs.private.Read.{pair_texts}
use Rattle.oauth2_pushed_requests.proofs.Kept.{kept, kept_here, kept_none, not_kept_here}
use Rattle.oauth2_pushed_requests.proofs.query_pairs.sole_value.Goals as goal
use Rattle.oauth2_pushed_requests.proofs.query_pairs.sole_value.Goals.{then-is_named+else-is_some, else-is_named}

pub loop-pair-preserved : goal.loop-pair-preserved
loop-pair-preserved c =
    let name = c.args.name.now in
    let pairs = c.args.pairs.now in
    let i = c.loop-pair.pair-index in
    let item = c.pair-item.result in
    let named : List (String Global × String Global) → List Pair = λ xs. filter (bears name) (map pair_texts xs) in
    let later = map pair_texts (drop (i + 1) pairs) in
    let back : named (item ∷ drop (i + 1) pairs) ≡ named (drop i pairs) =
    ap (λ x. named (x ∷ drop (i + 1) pairs)) c.pair-item.is ∙ sym (at_drop_more named pairs i item c.loop-pair-test.true) in
    elim c.if-is_named.branch [
      | then-is_named+else-is_some w ↦
          ap (λ f. kept name f ++ filter (bears name) later) w.found-is
          ∙ kept_here name (pair_texts item) later w.as_str.result (sym c.is_named.ensures ∙ w.if-is_named.true) w.as_str.ensures.value
          ∙ back
          ∙ ap (λ front. front ++ named (drop i pairs)) (kept_none name c.loop-pair.found (sym w.is_some.ensures ∙ w.if-is_some.false))
          ∙ c.loop-pair.invariant
      | else-is_named w ↦
          ap (λ f. kept name f ++ filter (bears name) later) w.found-is
          ∙ ap (λ more. kept name c.loop-pair.found ++ more) (not_kept_here name (pair_texts item) later (sym c.is_named.ensures ∙ w.if-is_named.false) ∙ back)
          ∙ c.loop-pair.invariant
    ]
