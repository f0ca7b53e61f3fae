-- One place of a list that grows as need be, and what the others keep.
use Rattle.std.proofs.Common.{◌≡◌, ◌≢◌, ℕ, zero, suc, ◌<◌, List, [], ◌∷◌, ◌++◌, get_or, refl, ap, sym, ◌∙◌, arith, ◌⊎◌, inl, inr}
use Rattle.std.proofs.lemmas.Bool.{cases_eq}
use Rattle.std.specs.List.{Contains}
use Rattle.std.proofs.lemmas.List.Elements.{Contains-append_cases}
use Rattle.oauth2_shared_token.specs.State.{Stage, NotBegun, put}

pub put-same : {A : Type 0} (none : A) (xs : List A) (i : ℕ) (x : A) → get_or (put none xs i x) i none ≡ x
put-same none [] zero x = refl
put-same none [] (suc i) x = put-same none [] i x
put-same none (y ∷ ys) zero x = refl
put-same none (y ∷ ys) (suc i) x = put-same none ys i x

pub put-other : {A : Type 0} (none : A) (xs : List A) (i j : ℕ) (x : A) → j ≢ i → get_or (put none xs i x) j none ≡ get_or xs j none
put-other none [] zero zero x ne = absurd (ne refl)
put-other none [] zero (suc j) x ne = refl
put-other none [] (suc i) zero x ne = refl
put-other none [] (suc i) (suc j) x ne = put-other none [] i j x (λ e. ne (ap (λ (k : ℕ). suc k) e))
put-other none (y ∷ ys) zero zero x ne = absurd (ne refl)
put-other none (y ∷ ys) zero (suc j) x ne = refl
put-other none (y ∷ ys) (suc i) zero x ne = refl
put-other none (y ∷ ys) (suc i) (suc j) x ne = put-other none ys i j x (λ e. ne (ap (λ (k : ℕ). suc k) e))

-- what is read after a write is what was written, or what was there
pub read-put : {A : Type 0} (none : A) (xs : List A) (i j : ℕ) (x y : A) → get_or (put none xs i x) j none ≡ y → ((j ≡ i) × (y ≡ x)) ⊎ ((j ≢ i) × (get_or xs j none ≡ y))
read-put none xs i j x y is =
    elim (cases_eq j i) [
      | inl same ↦ inl (same, sym is ∙ (rw same (put-same none xs i x)))
      | inr ne ↦ inr (ne, sym (put-other none xs i j x ne) ∙ is)
    ]

-- a renewal stays where it is if another, at another stage, gets further
pub stays-put : (xs : List Stage) (i j : ℕ) (x y z : Stage) → get_or xs i NotBegun ≡ y → z ≢ y → get_or xs j NotBegun ≡ z → get_or (put NotBegun xs i x) j NotBegun ≡ z
stays-put xs i j x y z was other is =
    let ne : j ≢ i = λ e. other (sym is ∙ ap (λ (k : ℕ). get_or xs k NotBegun) e ∙ was) in
    put-other NotBegun xs i j x ne ∙ is

pub none_in_nothing : {A : Type 0} (x : A) → Contains [] x → ⊥
none_in_nothing {A} x h = omega (arith, h.1)

pub only_one : {A : Type 0} (x y : A) (k : ℕ) → k < 1 → get_or (x ∷ []) k y ≡ y → y ≡ x
only_one {A} x y zero within is = sym is
only_one {A} x y (suc k) within is = absurd (omega (arith, within))

-- an item of a list with one more
pub in_one_more : {A : Type 0} (xs : List A) (x y : A) → Contains (xs ++ x ∷ []) y → Contains xs y ⊎ (y ≡ x)
in_one_more {A} xs x y h =
    elim (Contains-append_cases xs (x ∷ []) y h) [
      | inl before ↦ inl before
      | inr last ↦ inr (only_one x y last.0 last.1 last.2)
    ]
