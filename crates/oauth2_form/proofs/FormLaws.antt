-- What a form decodes to, where it was made longer.
use Rattle.std.proofs.Common.{◌≡◌, ℕ, List, [], ◌∷◌, ◌++◌, map, length, All, refl, sym, ap, ◌∙◌, subst, ⊎_elim, append_assoc, append-nil, arith}
use Rattle.std.specs.Prelude.{filter}
use Rattle.std.proofs.lemmas.Bool.{cond-true, cond-false, cases_eq, eq-eqb, ne_eqb, lt-ltb}
use Rattle.std.proofs.lemmas.List.{map-append}
use Rattle.std.proofs.lemmas.List.Elements.{filter-append, All-nil, All-cons, All-head, All-tail}
use Rattle.form_urlencoded.specs.Form.{onto_first, split, split_pair, is_nonempty, raw_pairs, parse, decode, serialize_pair, separator, append_pair, extend_pairs, IsPrefix}
use Rattle.form_urlencoded.proofs.FormLemmas.{round_trip}
use Rattle.oauth2_form.specs.Pairs.{Pair, IsBytePair}

-- a split has a first piece
split_cons : (s : ℕ) (bs : List ℕ) → (piece : List ℕ) × (pieces : List (List ℕ)) × (split s bs ≡ piece ∷ pieces)
unfolding split
split_cons s [] = ([], [], refl)
split_cons s (b ∷ bs) =
    let rest = split_cons s bs in
    ⊎_elim
    (λ same. ([], split s bs, cond-true _ _ _ (eq-eqb b s same)))
    (λ other. (b ∷ rest.0, rest.1, cond-false _ _ _ (ne_eqb b s other) ∙ ap (onto_first b) rest.2))
    (cases_eq b s)

onto_first-append : (b : ℕ) (first all more : List (List ℕ)) (piece : List ℕ) → all ≡ piece ∷ first → onto_first b (all ++ more) ≡ onto_first b all ++ more
onto_first-append b first all more piece is = subst (λ l. onto_first b (l ++ more) ≡ onto_first b l ++ more) (sym is) refl

split-append : (s : ℕ) (xs ys : List ℕ) → split s (xs ++ s ∷ ys) ≡ split s xs ++ split s ys
unfolding split
split-append s [] ys = cond-true _ _ _ (eq-eqb s s refl)
split-append s (x ∷ xs) ys =
    let some = split_cons s xs in
    ⊎_elim
    (λ same. cond-true _ _ _ (eq-eqb x s same) ∙ ap (λ l. [] ∷ l) (split-append s xs ys) ∙ ap (λ l. l ++ split s ys) (sym (cond-true _ _ _ (eq-eqb x s same))))
    (λ other. cond-false _ _ _ (ne_eqb x s other) ∙ ap (onto_first x) (split-append s xs ys) ∙ onto_first-append x some.1 (split s xs) (split s ys) some.0 some.2 ∙ ap (λ l. l ++ split s ys) (sym (cond-false _ _ _ (ne_eqb x s other))))
    (cases_eq x s)

raw_pairs-append : (xs ys : List ℕ) → raw_pairs (xs ++ 38 ∷ ys) ≡ raw_pairs xs ++ raw_pairs ys
unfolding raw_pairs
raw_pairs-append xs ys =
    ap (λ x. map split_pair (filter is_nonempty x)) (split-append 38 xs ys) ∙ ap (map split_pair) (filter-append is_nonempty (split 38 xs) (split 38 ys)) ∙ map-append split_pair _ _

abbrev decode_pair : Pair → Pair
decode_pair pair = (decode pair.0, decode pair.1)

-- two forms with `&` between them
pub parse-joined : (xs ys : List ℕ) → parse (xs ++ 38 ∷ ys) ≡ parse xs ++ parse ys
parse-joined xs ys = ap (map decode_pair) (raw_pairs-append xs ys) ∙ map-append decode_pair _ _

pub parse-nil : parse [] ≡ []
unfolding raw_pairs split
parse-nil = refl

parse_alone : (pair : Pair) → IsBytePair pair → parse (serialize_pair pair) ≡ pair ∷ []
parse_alone pair small = round_trip (pair ∷ []) (All-cons IsBytePair pair [] small (All-nil IsBytePair))

pub parse-append_pair : (form : List ℕ) (pair : Pair) → IsBytePair pair → parse (append_pair form pair.0 pair.1) ≡ parse form ++ pair ∷ []
parse-append_pair [] pair small = parse_alone pair small ∙ rw parse-nil
parse-append_pair (b ∷ bs) pair small =
    let text = serialize_pair pair in
    let joined : separator (b ∷ bs) ≡ 38 ∷ [] = cond-true _ _ _ (lt-ltb 0 (length (b ∷ bs)) (omega arith)) in
    ap (λ sep. parse (b ∷ bs ++ sep ++ text)) joined ∙ ap parse (append_assoc (b ∷ bs) (38 ∷ []) text) ∙ parse-joined (b ∷ bs) text ∙ ap (λ l. parse (b ∷ bs) ++ l) (parse_alone pair small)

-- the same for several pairs
pub parse-extend_pairs : (form : List ℕ) (pairs : List Pair) → All IsBytePair pairs → parse (extend_pairs form pairs) ≡ parse form ++ pairs
parse-extend_pairs form [] small = sym (append-nil (parse form))
parse-extend_pairs form (pair ∷ pairs) small =
    parse-extend_pairs (append_pair form pair.0 pair.1) pairs (All-tail IsBytePair pair pairs small) ∙ ap (λ l. l ++ pairs) (parse-append_pair form pair (All-head IsBytePair pair pairs small)) ∙ append_assoc (parse form) (pair ∷ []) pairs

-- pairs go to the end
pub prefix_extend_pairs : (form : List ℕ) (pairs : List Pair) → IsPrefix form (extend_pairs form pairs)
prefix_extend_pairs form [] = ([], sym (append-nil form))
prefix_extend_pairs form (pair ∷ pairs) =
    let later = prefix_extend_pairs (append_pair form pair.0 pair.1) pairs in
    (separator form ++ serialize_pair pair ++ later.0, later.1 ∙ simp append_assoc)
