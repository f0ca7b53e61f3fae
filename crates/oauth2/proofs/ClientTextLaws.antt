-- The text of a client, where the formatter has no options.
use Rattle.std.proofs.Common.{◌≡◌, ℕ, List, sym, subst}
use Rattle.std.specs.Prelude.{Option, Some, None, Result}
use Rattle.std.specs.declared.fmt.Formatter.{Formatter}
use Rattle.std.specs.declared.fmt.Error.{Error}
use Rattle.std.specs.Fmt.{DisplaysOnOk, DisplaysStyledOnOk, IsPlainFormatter, IsDefaultSpec}

-- what is written whatever options the formatter has is written where it has none
pub displays_of_styled : {W : Type 0} (took : W → List ℕ → W → Type 0) (f g : Formatter W) (r : Result (Unit {0}) Error) (o p : Option (List ℕ)) → (IsPlainFormatter f → p ≡ o) → DisplaysStyledOnOk took f r p g → DisplaysOnOk took f r o g
displays_of_styled took f g r None p same styled = tt
displays_of_styled took f g r (Some bs) p same styled =
    λ plain ok.
    let written = subst (λ (q : Option (List ℕ)). DisplaysStyledOnOk took f r q g) (same plain) styled plain.flush ok in
    record { wrote = written.wrote; plain = record { bare = subst IsDefaultSpec (sym written.spec) plain.bare; flush = written.flush } }
