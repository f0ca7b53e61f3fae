-- Reading the items of a list one after the other, as a loop does.
use Rattle.std.proofs.Common.{◌≡◌, ◌≢◌, ℕ, suc, ◌+◌, ◌<◌, ◌≤◌, List, [], ◌∷◌, ◌++◌, length, drop, get_or, Ok, Err, refl, sym, ap, ◌∙◌, append_assoc, add-one, drop-cons}
use Rattle.std.proofs.lemmas.List.{append-nil}
use Rattle.std.proofs.Math.ListN.{drop_of_length-le}
use Rattle.serde_json.specs.Data.{Data}
use Rattle.serde_json.specs.View.{view, items_view}
use Rattle.serde_json.specs.declared.value.Value.{Value}
use Rattle.oauth2_script_values.specs.Reading.{Reading, map_read, bad, inside, to_item}
use Rattle.oauth2_script_values.specs.Part.{each_item, pair_of}
use Rattle.oauth2_script_values.specs.Gives.{TellsPartError, fault_view}
use Rattle.oauth2_script_values.specs.declared.part_error.PartError.{PartError}
use Rattle.oauth2_script_values.specs.declared.part_error.PartError.TheVariants as errors
use Rattle.oauth2_script_values.specs.declared.script_cause.ScriptCause.TheVariants.{WrongType}

-- what was read before, and what is still read
abbrev pub with_front : {A : Type 0} → List A → Reading (List A) → Reading (List A)
with_front front read = map_read (λ xs. front ++ xs) read

regroup : {A : Type 0} (front : List A) (x : A) (read : Reading (List A)) → with_front front (map_read (λ xs. x ∷ xs) read) ≡ with_front (front ++ x ∷ []) read
regroup front x (Ok xs) = ap Ok (simp append_assoc)
regroup front x (Err e) = refl

module _ {A : Type 0} (part : Data → Reading A) (front : List A) (vs : List Value) (i : ℕ) (total : Reading (List A)) where
  one : (v : Value) → i < length vs → v ≡ get_or vs i v → drop i vs ≡ v ∷ drop (i + 1) vs
  one v lt at = rw (add-one, drop-cons vs i v lt) (ap (λ (w : Value). w ∷ drop (suc i) vs) (sym at))

  pub goes_on : (v : Value) → i < length vs → v ≡ get_or vs i v → with_front front (each_item part i (items_view (drop i vs))) ≡ total
      → (x : A) → inside (to_item i) (part (view v)) ≡ Ok x → with_front (front ++ x ∷ []) (each_item part (i + 1) (items_view (drop (i + 1) vs))) ≡ total
  goes_on v lt at so_far x h =
      let step : each_item part i (items_view (drop i vs)) ≡ map_read (λ xs. x ∷ xs) (each_item part (i + 1) (items_view (drop (i + 1) vs))) = rw (one v lt at, add-one, h) refl in
      sym (regroup front x (each_item part (i + 1) (items_view (drop (i + 1) vs)))) ∙ ap (with_front front) (sym step) ∙ so_far

  pub stops : (v : Value) → i < length vs → v ≡ get_or vs i v → with_front front (each_item part i (items_view (drop i vs))) ≡ total
      → (e : PartError) → TellsPartError e (inside (to_item i) (part (view v))) → TellsPartError e total
  stops v lt at so_far errors.Memory h = tt
  stops v lt at so_far (errors.Bad f) h =
      let step : each_item part i (items_view (drop i vs)) ≡ Err (fault_view f) = rw (one v lt at, h) refl in
      sym so_far ∙ ap (with_front front) step

  pub is_done : length vs ≤ i → with_front front (each_item part i (items_view (drop i vs))) ≡ total → total ≡ Ok front
  is_done le so_far =
      let e : drop i vs ≡ [] = drop_of_length-le vs le in
      let all : with_front front (each_item part i (items_view (drop i vs))) ≡ Ok front = rw e (ap Ok (append-nil front)) in
      sym so_far ∙ all

-- a list of another length is no pair
pub pair_of-other : (vs : List Value) → length vs ≢ 2 → pair_of (items_view vs) ≡ bad WrongType
pair_of-other [] h = refl
pair_of-other (a ∷ []) h = refl
pair_of-other (a ∷ b ∷ []) h = absurd (h refl)
pair_of-other (a ∷ b ∷ c ∷ vs) h = refl
