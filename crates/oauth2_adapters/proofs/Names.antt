-- Names that are looked up among those behind them.
use Rattle.std.proofs.Common.{◌≡◌, ℕ, ◌+◌, ◌<◌, Bool, true, false, cond, not, ◌||◌, List, [], ◌∷◌, length, map, drop, get_or, refl, ap, ◌∙◌, zero, suc}
use Rattle.std.proofs.lemmas.List.{drop_more}
use Rattle.std.proofs.lemmas.Map.Text.{is_eq-slice_cmp}
use Rattle.std.specs.BTreeSet.{BTreeSet, UpdatesBy}
use Rattle.std.specs.Cmp.Lexicographic.{slice_cmp}
use Rattle.std.specs.Ordering.{nat_cmp}
use Rattle.std.specs.Str.{bytes_eq}
use Rattle.oauth2_form.specs.Pairs.{Pair}
use Rattle.oauth2_adapters.specs.FormBodies.{has_pair, repeats}
use Rattle.oauth2_adapters.specs.private.Names.{has_name}
use denote.Ref.{Bor}

or_of_cond : (a b : Bool) → cond a true b ≡ (a || b)
or_of_cond true b = refl
or_of_cond false b = refl

-- a name that was added is among them, and the others as before
pub name_added : (names next : BTreeSet (Bor (List ℕ))) (name : Bor (List ℕ))
    → UpdatesBy (λ x y. slice_cmp nat_cmp x.now y.now) (λ y. slice_cmp nat_cmp name.now y.now) names next true
    → (other : List ℕ) → has_name next other ≡ (bytes_eq name.now other || has_name names other)
name_added names next name updates other =
    updates.0 (record { ref_ptr = (0, 0); now = other }) ∙ ap (λ b. cond b true (has_name names other)) (is_eq-slice_cmp name.now other)
    ∙ or_of_cond (bytes_eq name.now other) (has_name names other)

-- a name that was not added was among them
pub known_name : (known : Bool) → false ≡ not known → known ≡ true
known_name true is = refl
known_name false is = is

module _ {A : Type 0} (texts : A → Pair) (pairs : List A) where
  -- the pairs from the last one that was looked at
  abbrev pub from : ℕ → List Pair
  from index = map texts (drop index pairs)

  module _ (index : ℕ) (d : A) (inside : index < length pairs) where
    here : from index ≡ texts (get_or pairs index d) ∷ from (index + 1)
    here = ap (map texts) (drop_more pairs index d inside)

    -- its name stands behind it too
    pub repeated_here : has_pair (texts (get_or pairs index d)).0 (from (index + 1)) ≡ true → repeats (from index) ≡ true
    repeated_here has = ap repeats here ∙ ap (λ b. b || repeats (from (index + 1))) has

or_right : (a b : Bool) → b ≡ true → (a || b) ≡ true
or_right true b is = refl
or_right false b is = is

-- names that repeat in a part repeat in the whole
pub repeats_whole : {A : Type 0} (texts : A → Pair) (pairs : List A) (index : ℕ) → repeats (map texts (drop index pairs)) ≡ true → repeats (map texts pairs) ≡ true
repeats_whole texts pairs zero is = is
repeats_whole texts [] (suc index) is = is
repeats_whole texts (pair ∷ pairs) (suc index) is =
    or_right (has_pair (texts pair).0 (map texts pairs)) (repeats (map texts pairs)) (repeats_whole texts pairs index is)
