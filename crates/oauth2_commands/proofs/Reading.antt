-- The reads of an input, counted.
use Rattle.std.proofs.Common.{◌≡◌, ◌≢◌, ℕ, zero, suc, Option, Some, Result, Ok, Err, refl, inr}
use Rattle.std.specs.Prelude.{IsErrAnd}
use Rattle.oauth2_commands.specs.Input.{GivesBytes, IsLeft, Calls}
use Rattle.oauth2_commands.specs.declared.status.RunFault.{RunFault}
use Rattle.oauth2_commands.specs.declared.status.RunFault.TheVariants.{Memory}

module _ {R : Type 0} (reads : R → Option ℕ → R → Type 0) where
  pub GivesBytes-none : (old : R) → GivesBytes reads 0 old old
  unfolding GivesBytes
  GivesBytes-none old = refl

  pub GivesBytes-more : (n given : ℕ) (old mid new : R) → given ≢ 0 → GivesBytes reads n old mid → reads mid (Some given) new → GivesBytes reads (suc n) old new
  unfolding GivesBytes
  GivesBytes-more n zero old mid new some before last = absurd (some refl)
  GivesBytes-more n (suc count) old mid new some before last = (mid, count, before, last)

  pub Calls-left : {X : Type 0} (r : Result X RunFault) (old new : R) → IsErrAnd r (λ e. e ≡ Memory) → IsLeft reads old new → Calls reads r old new
  Calls-left (Ok x) old new h left = absurd h
  Calls-left (Err e) old new h left = rw h (inr left)
