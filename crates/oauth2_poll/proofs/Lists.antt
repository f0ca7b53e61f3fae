-- Lists of which a part may be missing.
use Rattle.std.proofs.Common.{◌≡◌, ℕ, zero, suc, ◌<◌, List, [], ◌∷◌, ◌++◌, map, length, true, Option, Some, None, refl, ap, arith, take}
use Rattle.std.specs.Prelude.{slice_get}
use Rattle.oauth2_poll.specs.Trace.{until_missing, is_whole}

-- the items of the first list are those of both
pub slice_get-append_left : {A : Type 0} (xs ys : List A) (i : ℕ) → i < length xs → slice_get (xs ++ ys) i ≡ slice_get xs i
slice_get-append_left {A} [] ys i h = absurd (omega (arith, h))
slice_get-append_left {A} (x ∷ xs) ys zero h = refl
slice_get-append_left {A} (x ∷ xs) ys (suc i) h = slice_get-append_left xs ys i (omega (arith, h))

-- and then comes the first of the second
pub slice_get-append_here : {A : Type 0} (xs : List A) (y : A) (ys : List A) → slice_get (xs ++ y ∷ ys) (length xs) ≡ Some y
slice_get-append_here {A} [] y ys = refl
slice_get-append_here {A} (x ∷ xs) y ys = slice_get-append_here xs y ys

pub until_missing-append : {A : Type 0} (xs : List A) (ys : List (Option A)) → until_missing (map Some xs ++ ys) ≡ xs ++ until_missing ys
until_missing-append {A} [] ys = refl
until_missing-append {A} (x ∷ xs) ys = ap (λ (l : List A). x ∷ l) (until_missing-append xs ys)

pub is_whole-append : {A : Type 0} (xs : List A) (ys : List (Option A)) → is_whole (map Some xs ++ ys) ≡ is_whole ys
is_whole-append {A} [] ys = refl
is_whole-append {A} (x ∷ xs) ys = is_whole-append xs ys

pub until_missing_whole : {A : Type 0} (xs : List A) → until_missing (map Some xs) ≡ xs
until_missing_whole {A} [] = refl
until_missing_whole {A} (x ∷ xs) = ap (λ (l : List A). x ∷ l) (until_missing_whole xs)

pub is_whole_whole : {A : Type 0} (xs : List A) → is_whole (map (λ (x : A). Some x) xs) ≡ true
is_whole_whole {A} [] = refl
is_whole_whole {A} (x ∷ xs) = is_whole_whole xs

-- one more item of what is taken
pub take_one_more : {A : Type 0} (xs : List A) (k : ℕ) (x : A) → slice_get xs k ≡ Some x → take (suc k) xs ≡ take k xs ++ x ∷ []
take_one_more {A} [] k x h = cc
take_one_more {A} (y ∷ xs) zero x h = cc
take_one_more {A} (y ∷ xs) (suc k) x h = ap (λ (l : List A). y ∷ l) (take_one_more xs k x h)

-- what comes before the first that is missing is how the list begins
pub until_missing_begins : {A : Type 0} (xs : List (Option A)) → (rest : List (Option A)) × (xs ≡ map Some (until_missing xs) ++ rest)
until_missing_begins {A} [] = ([], refl)
until_missing_begins {A} (None ∷ xs) = (None ∷ xs, refl)
until_missing_begins {A} (Some x ∷ xs) = let b = until_missing_begins xs in (b.0, ap (λ (l : List (Option A)). Some x ∷ l) b.1)
