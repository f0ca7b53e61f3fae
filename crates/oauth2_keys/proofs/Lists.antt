-- Lists that are read one after another.
use Rattle.std.proofs.Common.{◌≡◌, ℕ, suc, nat_le, List, [], ◌∷◌, ◌++◌, length, Ok, Err, refl, ap, append_assoc}
use Rattle.serde_json.specs.View.{items_view}
use Rattle.serde_json.specs.declared.value.Value.{Value}
use Rattle.oauth2_keys.specs.KeySet.{listed_keys}
use Rattle.oauth2_keys.specs.Members.{KeyReading, ◌⊛◌}

-- what was read before, and then the rest
abbrev pub in_front : {A : Type 0} → List A → KeyReading (List A) → KeyReading (List A)
in_front done (Ok later) = Ok (done ++ later)
in_front done (Err e) = Err e

pub in_front-none : {A : Type 0} (r : KeyReading (List A)) → in_front [] r ≡ r
in_front-none (Ok later) = refl
in_front-none (Err e) = refl

pub in_front-more : {A : Type 0} (r : KeyReading (List A)) (done : List A) (a : A) → in_front (done ++ a ∷ []) r ≡ in_front done (Ok (λ (later : List A). a ∷ later) ⊛ r)
in_front-more (Ok later) done a = ap Ok (append_assoc done (a ∷ []) later)
in_front-more (Err e) done a = refl

-- an array has as many keys as values
pub listed_length : (values : List Value) → length (listed_keys (items_view values)) ≡ length values
listed_length [] = refl
listed_length (v ∷ later) = ap suc (listed_length later)

pub as_many : (values : List Value) (limit : ℕ) → nat_le (length values) limit ≡ nat_le (length (listed_keys (items_view values))) limit
as_many values limit = rw (listed_length values) refl
