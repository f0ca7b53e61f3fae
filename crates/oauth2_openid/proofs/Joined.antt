-- A text that is three others, one after another.
use Rattle.std.proofs.Common.{◌≡◌, ◌≢◌, ℕ, List, ◌++◌, Bool, true, false, true≢false, bytes_eq, refl, sym, ◌∙◌}
use Rattle.std.proofs.lemmas.List.{append_cancel_left, append_assoc}
use Rattle.std.proofs.lemmas.Slice.Eq.{bytes_eq-Decides}

differs_at : (x y : List ℕ) (t : Bool) → bytes_eq x y ≡ t → x ≢ y → t ≡ false
differs_at x y true e never = absurd (never ((bytes_eq-Decides x y).0 e))
differs_at x y false e never = refl

differs : (x y : List ℕ) → x ≢ y → false ≡ bytes_eq x y
differs x y never = sym (differs_at x y (bytes_eq x y) refl never)

same_at : (a b x y : List ℕ) (t : Bool) → bytes_eq a b ≡ t → (a ≡ b → x ≡ y) → (x ≡ y → a ≡ b) → t ≡ bytes_eq x y
same_at a b x y true e f g = sym ((bytes_eq-Decides x y).1 (f ((bytes_eq-Decides a b).0 e)))
same_at a b x y false e f g = differs x y (λ h. true≢false (sym ((bytes_eq-Decides a b).1 (g h)) ∙ e))

module _ (text first second third : List ℕ) where
  pub no_first : ((rest : List ℕ) → text ≢ first ++ rest) → false ≡ bytes_eq text (first ++ second ++ third)
  no_first never = differs text (first ++ second ++ third) (λ e. never (second ++ third) (e ∙ append_assoc first second third))

  module _ (rest : List ℕ) (is : text ≡ first ++ rest) where
    follows : text ≡ first ++ second ++ third → rest ≡ second ++ third
    follows e = append_cancel_left first rest (second ++ third) (sym is ∙ e ∙ append_assoc first second third)

    pub no_second : ((last : List ℕ) → rest ≢ second ++ last) → false ≡ bytes_eq text (first ++ second ++ third)
    no_second never = differs text (first ++ second ++ third) (λ e. never third (follows e))

    pub joined : (last : List ℕ) (b : Bool) → rest ≡ second ++ last → b ≡ bytes_eq last third → b ≡ bytes_eq text (first ++ second ++ third)
    joined last b ends same =
        same ∙ same_at last third text (first ++ second ++ third) (bytes_eq last third) refl
        (λ e. rw (is, ends, e) (sym (append_assoc first second third)))
        (λ e. append_cancel_left second last third (sym ends ∙ follows e))
