-- The search for a connection among the idle ones.
use Rattle.std.proofs.Common.{◌≡◌, ℕ, ◌+◌, ◌<◌, true, false, List, [], ◌∷◌, ◌++◌, take, drop, length, get_or, Some, sym, ap, ◌∙◌, append_assoc}
use Rattle.std.proofs.lemmas.Bool.{cond-true, cond-false}
use Rattle.std.proofs.lemmas.List.{drop_more, take_more}
use Rattle.oauth2_http1.specs.Origin.{Place}
use Rattle.oauth2_http1_connections.specs.Idle.{is_for, find, without}
use Rattle.oauth2_http1_connections.specs.declared.idle.Idle.{Idle}

module _ {S : Type 0} (place : Place) (kept : List (Idle S)) (i : ℕ) (d : Idle S) (inside : i < length kept) where
  here : drop i kept ≡ get_or kept i d ∷ drop (i + 1) kept
  here = drop_more kept i d inside

  -- the connection at the index is one to the place
  pub found_here : is_for place (get_or kept i d) ≡ true → find place (drop i kept) ≡ Some (get_or kept i d).stream
  found_here is = ap (find place) here ∙ cond-true _ _ _ is

  pub others_here : is_for place (get_or kept i d) ≡ true → without place (drop i kept) ≡ drop (i + 1) kept
  others_here is = ap (without place) here ∙ cond-true _ _ _ is

  -- it is not
  pub found_later : is_for place (get_or kept i d) ≡ false → find place (drop i kept) ≡ find place (drop (i + 1) kept)
  found_later other = ap (find place) here ∙ cond-false _ _ _ other

  pub others_later : is_for place (get_or kept i d) ≡ false → without place kept ≡ take i kept ++ without place (drop i kept)
      → without place kept ≡ take (i + 1) kept ++ without place (drop (i + 1) kept)
  others_later other before =
      before ∙ ap (λ xs. take i kept ++ xs) (ap (without place) here ∙ cond-false _ _ _ other)
      ∙ sym (append_assoc (take i kept) (get_or kept i d ∷ []) (without place (drop (i + 1) kept)))
      ∙ ap (λ front. front ++ without place (drop (i + 1) kept)) (sym (take_more kept i d inside))
