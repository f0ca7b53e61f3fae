-- What a run has read, and what it has pushed.
use Rattle.std.proofs.Common.{◌≡◌, ℕ, List, [], ◌∷◌, ◌++◌, map, Some, None, ap, ◌∙◌, refl, append_assoc}
use Rattle.std.specs.Prelude.{slice_get}
use Rattle.std.specs.Option.{option_map}
use Rattle.std.proofs.lemmas.Option.{slice_get-map}
use Rattle.std.proofs.lemmas.List.{map-append}
use Rattle.jiff.specs.Types.{Timestamp}

pub moment_at : (readings : List Timestamp) (i : ℕ) (t : Timestamp) → slice_get readings i ≡ Some t → slice_get (map (λ (x : Timestamp). x.nanosecond) readings) i ≡ Some t.nanosecond
moment_at readings i t here =
    slice_get-map (λ (x : Timestamp). x.nanosecond) readings i ∙ ap (option_map (λ (x : Timestamp). x.nanosecond)) here

pub no_moment_at : (readings : List Timestamp) (i : ℕ) → slice_get readings i ≡ None → slice_get (map (λ (x : Timestamp). x.nanosecond) readings) i ≡ None
no_moment_at readings i none =
    slice_get-map (λ (x : Timestamp). x.nanosecond) readings i ∙ ap (option_map (λ (x : Timestamp). x.nanosecond)) none

pub pushed_one : {A B : Type 0} (f : A → B) (xs ys : List A) (a : A) → ys ≡ xs ++ a ∷ [] → map f ys ≡ map f xs ++ f a ∷ []
pushed_one {A} {B} f xs ys a h = rw (h, map-append) refl

pub pushed_two : {A B : Type 0} (f : A → B) (xs ys zs : List A) (a b : A) → ys ≡ xs ++ a ∷ [] → zs ≡ ys ++ b ∷ [] → map f zs ≡ map f xs ++ f a ∷ f b ∷ []
pushed_two {A} {B} f xs ys zs a b h k = rw (k, h, append_assoc, map-append) refl

pub pushed_three : {A B : Type 0} (f : A → B) (xs ys zs ws : List A) (a b c : A) → ys ≡ xs ++ a ∷ [] → zs ≡ ys ++ b ∷ [] → ws ≡ zs ++ c ∷ [] → map f ws ≡ map f xs ++ f a ∷ f b ∷ f c ∷ []
pushed_three {A} {B} f xs ys zs ws a b c h k l = rw (l, map-append, pushed_two f xs ys zs a b h k, append_assoc) refl

pub pushed_four : {A B : Type 0} (f : A → B) (xs ys zs ws vs : List A) (a b c d : A) → ys ≡ xs ++ a ∷ [] → zs ≡ ys ++ b ∷ [] → ws ≡ zs ++ c ∷ [] → vs ≡ ws ++ d ∷ [] → map f vs ≡ map f xs ++ f a ∷ f b ∷ f c ∷ f d ∷ []
pushed_four {A} {B} f xs ys zs ws vs a b c d h k l m = rw (m, map-append, pushed_three f xs ys zs ws a b c h k l, append_assoc) refl
