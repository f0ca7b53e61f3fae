use Rattle.std.proofs.Common.{◌≡◌, ℕ, List, length, map, rules, Global, sym, ap, ◌∙◌}
use Rattle.std.specs.Iterator.{Drains}
use Rattle.std.specs.Vec.Iter.{into_iter_items, into_iter_len, into_iter_steps}
use Rattle.std.specs.declared.vec.IntoIter.{IntoIter}
use Rattle.std.proofs.lemmas.Iterator.{items_from_drains}
use Rattle.std.proofs.lemmas.Iterator.Adapters.{YieldsList-from_vec}
use Rattle.std.proofs.lemmas.List.{map-id}
use Rattle.std.proofs.lemmas.Result.{IfOk-weaker}
use Rattle.oauth2_requests.specs.Base.{Base}
use Rattle.oauth2_form.specs.Params.{with_scopes}
use Rattle.oauth2_callers.proofs.exchange.with_all_scopes.Goals as goal

-- what a `Vec` gives, one by one, is its items
every_item : (s : IntoIter (List ℕ) Global) (items xs : List (List ℕ)) → into_iter_items s ≡ items → into_iter_len s ≡ length items → Drains into_iter_steps s xs → xs ≡ items
every_item s items xs all count drains =
    let same : map (λ x. x) xs ≡ items = items_from_drains {steps = into_iter_steps {X = List ℕ} {Z = Global}} {v = λ x. x} xs (drains.1.0, drains.1.1, λ _. (drains.0, drains.1.2)) (YieldsList-from_vec {s = s} items all count) in
    sym (map-id xs) ∙ same

abbrev with : Base → List (List ℕ) → Base
with base scopes = record base { scope = with_scopes base.scope scopes }

pub returns : goal.returns
returns c = IfOk-weaker c.add_scopes.result _ _
    (λ r h.
    let count : into_iter_len h.0 ≡ length c.args.scopes.items = h.2.1 ∙ search rules in
    ap (λ q. q.base) h.4 ∙ ap (with c.args.request.base) (every_item h.0 c.args.scopes.items h.1 h.2.0 count h.3))
    c.add_scopes.ensures
