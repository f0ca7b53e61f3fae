-- The parameter of a name that a loop has come by, and bytes that are no text.
use Rattle.std.proofs.Common.{◌≡◌, refl, sym, ap, ◌∙◌, ℕ, List, [], ◌∷◌, ◌++◌, filter, Bool, true, false, Option, Some, None}
use Rattle.std.specs.Prelude.{is_some}
use Rattle.std.specs.Borrow.{Bor}
use Rattle.std.specs.Str.{IsUtf8, is_utf8}
use Rattle.std.proofs.lemmas.Str.{IsUtf8-from_is_utf8}
use Rattle.std.proofs.lemmas.Bool.{cond-true, cond-false, true≢false}
use Rattle.std.proofs.lemmas.Slice.Eq.{bytes_eq-Decides}
use Rattle.oauth2_form.specs.Pairs.{Pair}
use Rattle.oauth2_wire.specs.ByName.{bears}

-- the parameter that was found
abbrev pub kept : List ℕ → Option (Bor (List ℕ)) → List Pair
kept name None = []
kept name (Some value) = (name, value.now) ∷ []

not_true : (b : Bool) → (b ≡ true → ⊥) → b ≡ false
not_true true h = absurd (h refl)
not_true false h = refl

pub is_not_utf8 : (bytes : List ℕ) → ¬ (IsUtf8 bytes) → is_utf8 bytes ≡ false
is_not_utf8 bytes h = not_true (is_utf8 bytes) (λ is. h (IsUtf8-from_is_utf8 bytes is))

-- ---- one step of the loop

pub kept_here : (name : List ℕ) (pair : Pair) (rest : List Pair) (value : Bor (List ℕ)) → bears name pair ≡ true → value.now ≡ pair.1
    → kept name (Some value) ++ filter (bears name) rest ≡ filter (bears name) (pair ∷ rest)
kept_here name pair rest value named is =
    ap (λ v. (name, v) ∷ filter (bears name) rest) is
    ∙ ap (λ n. (n, pair.1) ∷ filter (bears name) rest) (sym ((bytes_eq-Decides pair.0 name).0 named))
    ∙ sym (cond-true _ _ _ named)

pub not_kept_here : (name : List ℕ) (pair : Pair) (rest : List Pair) → bears name pair ≡ false → filter (bears name) rest ≡ filter (bears name) (pair ∷ rest)
not_kept_here name pair rest other = sym (cond-false _ _ _ other)

pub kept_none : (name : List ℕ) (found : Option (Bor (List ℕ))) → is_some found ≡ false → [] ≡ kept name found
kept_none name None none = refl
kept_none name (Some value) none = absurd (true≢false none)
