-- What is written through a formatter, as one text.
use Rattle.std.proofs.Common.{◌≡◌, refl, sym, ap, subst, ◌∙◌, ℕ, List, [], ◌∷◌, MutBor, Ok, Err, rules}
use Rattle.std.specs.Prelude.{Option, Some, None, Result, OnOk, IsOk, IfSome}
use Rattle.std.specs.declared.fmt.Formatter.{Formatter}
use Rattle.std.specs.declared.fmt.Error.{Error}
use Rattle.std.specs.Fmt.{IsFlush, IsDefaultSpec, IsPlainFormatter, HasWritten, HasWrittenStyled, WritesText, DisplaysOnOk, DisplaysStyledOnOk}
use Rattle.std.specs.List.{FoldsTo, concat}
use Rattle.std.proofs.Output.{has_written_styled_nil, has_written_styled_append, has_written_styled_of_eq}
use Rattle.oauth2_types.specs.declared.display.Through.{Through}
use Rattle.oauth2_types.specs.Passing.{PassesOn}

module _ {W : Type 0} (took : W → List ℕ → W → Type 0) where
  calls : (s : Through W) (xs : List (List ℕ)) (t : Through W) → FoldsTo (PassesOn took) s xs t → IsFlush s.f.now → HasWrittenStyled took s.f.now (concat xs) t.f.now
  calls s [] t p flush = subst (λ (x : Through W). HasWrittenStyled took s.f.now [] x.f.now) p (has_written_styled_nil took s.f.now flush)
  calls s (x ∷ xs) t p flush = let one = p.1.0 flush in has_written_styled_append took _ x _ _ _ one (calls p.0 xs t p.2 one.flush)

  names : (s : Through W) (xs : List (List ℕ)) (t : Through W) → FoldsTo (PassesOn took) s xs t → t.f.ghost_name ≡ s.f.ghost_name
  names s [] t p = ap (λ (x : Through W). x.f.ghost_name) (sym p)
  names s (x ∷ xs) t p = names p.0 xs t p.2 ∙ p.1.1

  -- l is the reference that comes back
  pub displays_styled_through : (s t : Through W) (l : MutBor (Formatter W)) (g : Formatter W) (r : Result (Unit {0}) Error) (o : Option (List ℕ)) → l ≡ t.f → (l.ghost_name ≡ s.f.ghost_name → g ≡ l.now) → OnOk r (WritesText (PassesOn took) s o t) → DisplaysStyledOnOk took s.f.now r o g
  displays_styled_through s t l g r None same back p = tt
  displays_styled_through s t l g (Err e) (Some bs) same back p = λ flush ok. absurd (search rules)
  displays_styled_through s t l g (Ok x) (Some bs) same back p = λ flush ok.
      let at_end = back (subst (λ (m : MutBor (Formatter W)). m.ghost_name ≡ s.f.ghost_name) (sym same) (names s p.parts t p.calls)) in
      subst (λ (x : Formatter W). HasWrittenStyled took s.f.now bs x) (sym (at_end ∙ ap (λ (m : MutBor (Formatter W)). m.now) same))
      (has_written_styled_of_eq took _ _ _ _ p.whole (calls s p.parts t p.calls flush))

  -- a formatter with no options has the same text
  pub displays_of_displays_styled : (f g : Formatter W) (r : Result (Unit {0}) Error) (o : Option (List ℕ)) → DisplaysStyledOnOk took f r o g → DisplaysOnOk took f r o g
  displays_of_displays_styled f g r None p = tt
  displays_of_displays_styled f g r (Some bs) p = λ plain ok.
      let q = p plain.flush ok in
      record { wrote = q.wrote; plain = record { bare = subst IsDefaultSpec (sym q.spec) plain.bare; flush = q.flush } }
