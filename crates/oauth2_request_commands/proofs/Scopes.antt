-- What a `Vec` of scopes gives, one by one.
use Rattle.std.proofs.Common.{◌≡◌, ℕ, List, length, map, Vec, Global, rules, sym, ◌∙◌}
use Rattle.std.specs.Prelude.{vec_len}
use Rattle.std.specs.Iterator.{Drains}
use Rattle.std.specs.Vec.Iter.{into_iter_items, into_iter_len, into_iter_steps}
use Rattle.std.specs.declared.vec.IntoIter.{IntoIter}
use Rattle.std.proofs.lemmas.Iterator.{items_from_drains}
use Rattle.std.proofs.lemmas.Iterator.Adapters.{YieldsList-from_vec}
use Rattle.std.proofs.lemmas.List.{map-id}

-- its items
pub every_item : (s : IntoIter (List ℕ) Global) (items xs : List (List ℕ)) → into_iter_items s ≡ items → into_iter_len s ≡ length items → Drains into_iter_steps s xs → xs ≡ items
every_item s items xs all count drains =
    let same : map (λ x. x) xs ≡ items = items_from_drains {steps = into_iter_steps {X = List ℕ} {Z = Global}} {v = λ x. x} xs (drains.1.0, drains.1.1, λ _. (drains.0, drains.1.2)) (YieldsList-from_vec {s = s} items all count) in
    sym (map-id xs) ∙ same

-- those that are drained of it
pub all_added : (scopes : Vec (List ℕ) Global) (s : IntoIter (List ℕ) Global)
    (added : List (List ℕ)) → into_iter_items s ≡ scopes.items → into_iter_len s ≡ vec_len scopes
    → Drains into_iter_steps s added → added ≡ scopes.items
all_added scopes s added all count drains =
    every_item s scopes.items added all (count ∙ search rules) drains
