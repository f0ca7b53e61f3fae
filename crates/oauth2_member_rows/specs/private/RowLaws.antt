-- Lists of rows depend on the members of their names only.
use Rattle.std.proofs.Common.{◌≡◌, ℕ, List, [], ◌∷◌, ◌++◌, Option, Ok, refl, ap}
use Rattle.serde_json.specs.Data.{Data, Members}
use Rattle.serde_json.specs.Find.{get_member}
use Rattle.oauth2_json.specs.Reading.{Reading, ◌⊛◌}
use Rattle.oauth2_member_rows.specs.Rows.{Agree, joined}

-- ---- one row

module _ {A : Type 0} (reads : Option Data → Reading A) where
  pub member_depends : (name : List ℕ) (a b : Members) → Agree (name ∷ []) a b → reads (get_member name a) ≡ reads (get_member name b)
  member_depends name a b h = ap reads h.0

module _ {A : Type 0} (reads : Option Data → Option Data → Reading A) where
  pub members_depend : (name other : List ℕ) (a b : Members) → Agree (name ∷ other ∷ []) a b → reads (get_member name a) (get_member other a) ≡ reads (get_member name b) (get_member other b)
  members_depend name other a b h = rw (h.0, h.1.0) refl

-- ---- one list before another

pub agree_parts : (xs ys : List (List ℕ)) (a b : Members) → Agree (xs ++ ys) a b → Agree xs a b × Agree ys a b
agree_parts [] ys a b h = (tt, h)
agree_parts (x ∷ xs) ys a b h =
    let p = agree_parts xs ys a b h.1 in
    ((h.0, p.0), p.1)

module _ {A B : Type 0} where
  pub pair_depends : (xs ys : List (List ℕ)) (f : Members → Reading A) (g : Members → Reading B) (a b : Members)
      → (Agree xs a b → f a ≡ f b) → (Agree ys a b → g a ≡ g b) → Agree (xs ++ ys) a b → Ok joined ⊛ f a ⊛ g a ≡ Ok joined ⊛ f b ⊛ g b
  pair_depends xs ys f g a b first second h =
      let p = agree_parts xs ys a b h in
      rw (first p.0, second p.1) refl
