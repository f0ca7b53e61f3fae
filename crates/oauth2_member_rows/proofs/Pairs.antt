-- Two readings, one after the other.
use Rattle.std.proofs.Common.{◌≡◌, Ok, Err, refl, ap}
use Rattle.oauth2_json.specs.Reading.{Reading, ErrsAs, ◌⊛◌}
use Rattle.oauth2_json.specs.declared.read.ReadError.{ReadError}
use Rattle.oauth2_json.specs.declared.read.ReadError.TheVariants as errors
use Rattle.oauth2_member_rows.specs.Rows.{joined}

module _ {A B : Type 0} where
  pub both_read : (f : Reading A) (g : Reading B) (a : A) (b : B) → f ≡ Ok a → g ≡ Ok b → Ok joined ⊛ f ⊛ g ≡ Ok (a, b)
  both_read f g a b h k = rw (h, k) refl

  pub first_errs : (e : ReadError) (f : Reading A) (g : Reading B) → ErrsAs e f → ErrsAs e (Ok joined ⊛ f ⊛ g)
  first_errs errors.Memory f g h = tt
  first_errs (errors.Fault fault) f g h = rw h refl

  pub second_errs : (e : ReadError) (f : Reading A) (g : Reading B) (a : A) → f ≡ Ok a → ErrsAs e g → ErrsAs e (Ok joined ⊛ f ⊛ g)
  second_errs errors.Memory f g a h k = tt
  second_errs (errors.Fault fault) f g a h k = rw (h, k) refl

-- what both gave, of a pair that was read
pub both_parts : {A B : Type 0} (f : Reading A) (g : Reading B) (a : A) (b : B) → Ok joined ⊛ f ⊛ g ≡ Ok (a, b) → (f ≡ Ok a) × (g ≡ Ok b)
both_parts (Err e) g a b h = cc h
both_parts (Ok x) (Err e) a b h = cc h
both_parts {A = A} {B = B} (Ok x) (Ok y) a b h =
    let pair : ◌≡◌ {A = A × B} (x, y) (a, b) = cc h in
    (ap (λ v. Ok v.0) pair, ap (λ v. Ok v.1) pair)
