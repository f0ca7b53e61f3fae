-- The lines of pairs.
use Rattle.std.proofs.Common.{◌≡◌, ℕ, ◌+◌, ◌<◌, List, [], ◌∷◌, ◌++◌, length, take, get_or, map, String, sym, ap, ◌∙◌, append_assoc, refl}
use Rattle.std.specs.declared.alloc.Global.{Global}
use Rattle.std.proofs.lemmas.List.{map_more, append-nil}
use Rattle.std.proofs.lemmas.List.Concat.{flat_map-append}
use Rattle.oauth2_wire.specs.ServerView.{pair_texts}
use Rattle.oauth2_results.specs.RequestLines.{pair_line, pair_lines}

-- one more pair
pub pair_lines-more : (initial now new : List ℕ) (pairs : List (String Global × String Global)) (i : ℕ) (item : String Global × String Global) → i < length pairs → item ≡ get_or pairs i item
    → now ≡ initial ++ pair_lines (map pair_texts (take i pairs)) → new ≡ now ++ pair_line (pair_texts item)
    → new ≡ initial ++ pair_lines (map pair_texts (take (i + 1) pairs))
pair_lines-more initial now new pairs i item lt is so_far grown =
    let more : map pair_texts (take (i + 1) pairs) ≡ map pair_texts (take i pairs) ++ pair_texts item ∷ [] =
    map_more pair_texts pairs i item lt ∙ ap (λ (p : String Global × String Global). map pair_texts (take i pairs) ++ pair_texts p ∷ []) (sym is) in
    let lines : pair_lines (map pair_texts (take (i + 1) pairs)) ≡ pair_lines (map pair_texts (take i pairs)) ++ pair_line (pair_texts item) =
    rw (more, flat_map-append pair_line (map pair_texts (take i pairs)) (pair_texts item ∷ []), append-nil) refl in
    rw (grown, so_far, lines) (append_assoc initial (pair_lines (map pair_texts (take i pairs))) (pair_line (pair_texts item)))
