-- Parameters that are added one by one, and whether a name is taken.
use Rattle.std.proofs.Common.{◌≡◌, ◌⊎◌, inl, inr, ℕ, ◌+◌, ◌||◌, List, [], ◌∷◌, ◌++◌, Bool, true, false, map, take, drop, if◌then◌else◌, refl, sym, ap, ◌∙◌, append_assoc}
use Rattle.std.specs.Prelude.{IsTrue}
use Rattle.std.specs.List.{list_any}
use Rattle.std.proofs.lemmas.List.{map-append, take-append-drop}
use Rattle.std.proofs.lemmas.List.Folds.{list_any-append}
use Rattle.oauth2_form.specs.Pairs.{Pair}
use Rattle.oauth2_grants.specs.Extension.{ExtensionRequest, is_taken, with_params}
use Rattle.oauth2_grants.specs.declared.grant_fault.GrantFault.{GrantFault}
use Rattle.oauth2_grants.specs.declared.grant_fault.GrantFault.TheVariants.{Memory, NameIsTaken}
use Rattle.oauth2_grant_commands.specs.TokenGrant.{has_taken_name}

abbrev test : Pair → Bool
test p = is_taken p.0

neither : (a b : Bool) → a ≡ false → b ≡ false → (a || b) ≡ false
neither a b h k = rw (h, k) refl

first : (a b : Bool) → a ≡ true → (a || b) ≡ true
first a b h = rw h refl

second : (a b : Bool) → b ≡ true → (a || b) ≡ true
second true b h = refl
second false b h = h

-- the request with one pair more
pub one_more : (r made next : ExtensionRequest) (before : List Pair) (pair : Pair)
    → (has_taken_name before ≡ false) × (made ≡ with_params r before) → (is_taken pair.0 ≡ false) × (next ≡ with_params made (pair ∷ []))
    → (has_taken_name (before ++ (pair ∷ [])) ≡ false) × (next ≡ with_params r (before ++ (pair ∷ [])))
one_more r made next before pair (free, is) (own, added) = (
  list_any-append test before (pair ∷ []) ∙ neither (list_any test before) (is_taken pair.0 || false) free (neither (is_taken pair.0) false own refl),
  rw (added, is)
      (ap (λ (pairs : List Pair). record r { base = record r.base { extra_params = pairs } })
      (append_assoc r.base.extra_params before (pair ∷ []))),
)

-- the pair that could not be added is one of all
pub fault_told : {A : Type 0} (seen : A → Pair) (all : List A) (i : ℕ) (before : List Pair) (pair : Pair) (e : GrantFault)
    → before ++ (pair ∷ []) ≡ map seen (take (i + 1) all) → e ≡ (if is_taken pair.0 then NameIsTaken else Memory)
    → (e ≡ Memory) ⊎ ((e ≡ NameIsTaken) × IsTrue (has_taken_name (map seen all)))
fault_told seen all i before pair e step is = by (is_taken pair.0) refl is
  where
    so_far : is_taken pair.0 ≡ true → list_any test (map seen (take (i + 1) all)) ≡ true
    so_far own =
        rw (← step)
        (list_any-append test before (pair ∷ []) ∙ second (list_any test before) (is_taken pair.0 || false) (first (is_taken pair.0) false own))

    whole : is_taken pair.0 ≡ true → list_any test (map seen all) ≡ true
    whole own =
        let parts : map seen (take (i + 1) all) ++ map seen (drop (i + 1) all) ≡ map seen all =
        sym (map-append seen (take (i + 1) all) (drop (i + 1) all)) ∙ ap (map seen) (take-append-drop (i + 1) all) in
        rw (← parts)
        (list_any-append test (map seen (take (i + 1) all)) (map seen (drop (i + 1) all))
        ∙ first (list_any test (map seen (take (i + 1) all))) (list_any test (map seen (drop (i + 1) all))) (so_far own))

    by : (b : Bool) → is_taken pair.0 ≡ b → e ≡ (if b then NameIsTaken else Memory) → (e ≡ Memory) ⊎ ((e ≡ NameIsTaken) × IsTrue (has_taken_name (map seen all)))
    by false own is = inl is
    by true own is = inr (is, whole own)
