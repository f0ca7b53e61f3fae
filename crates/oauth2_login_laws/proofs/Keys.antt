-- What it tells whether two keys are equal.
use Rattle.std.proofs.Common.{◌≡◌, ◌≢◌, ℕ, List, Bool, true, false, refl, ap, sym, ◌∙◌, not, cond, ◌==◌, Option, Some, None, ◌⊎◌, inl, inr, bytes_eq}
use Rattle.std.proofs.lemmas.Bool.Decides.{eqb_tells, not_from_Decides}
use Rattle.std.proofs.lemmas.Slice.Eq.{bytes_eq-Decides}
use Rattle.oauth2_redirect.specs.Login.{LoginView}
use Rattle.oauth2_login_laws.specs.Event.{is_other, key}
use Rattle.oauth2_login_laws.specs.Run.{one_if}

pub same_tells : (a b : List ℕ) → ((bytes_eq a b ≡ true) × (a ≡ b)) ⊎ ((bytes_eq a b ≡ false) × (a ≢ b))
same_tells a b = by (bytes_eq a b) refl
  where
    by : (t : Bool) → bytes_eq a b ≡ t → ((bytes_eq a b ≡ true) × (a ≡ b)) ⊎ ((bytes_eq a b ≡ false) × (a ≢ b))
    by true e = inl (e, (bytes_eq-Decides a b).0 e)
    by false e = inr (e, not_from_Decides (bytes_eq a b) (bytes_eq-Decides a b) e)

pub same_is : (a b : List ℕ) → bytes_eq a b ≡ true → a ≡ b
same_is a b holds =
    elim (same_tells a b) [
      | inl is ↦ is.1
      | inr fails ↦ cc
    ]

pub same_self : (a : List ℕ) → bytes_eq a a ≡ true
same_self a =
    elim (same_tells a a) [
      | inl is ↦ is.0
      | inr fails ↦ absurd (fails.1 refl)
    ]

pub equal_self : (n : ℕ) → (n == n) ≡ true
equal_self n =
    elim (eqb_tells n n) [
      | inl is ↦ is.0
      | inr fails ↦ absurd (fails.1 refl)
    ]

pub one_of_same : (a : List ℕ) (l : LoginView) → key l ≡ a → one_if a l ≡ 1
one_of_same a l is =
    ap (λ (t : Bool). cond t 1 0) (ap (λ (x : List ℕ). bytes_eq a x) is ∙ same_self a)

-- a login with this key is left out
pub is_left_out : (t : List ℕ) (l : LoginView) → t ≡ key l → is_other t l ≡ false
is_left_out t l is = ap not (ap (λ (u : List ℕ). bytes_eq u (key l)) is ∙ same_self (key l))

-- either a login is left out, or it has another key
pub out_or_none : (s : List ℕ) (l : LoginView) → (is_other s l ≡ false) ⊎ (one_if s l ≡ 0)
out_or_none s l =
    elim (same_tells s (key l)) [
      | inl is ↦ inl (ap not is.0)
      | inr fails ↦ inr (ap (λ (t : Bool). cond t 1 0) fails.0)
    ]

pub some_is : {a b : List ℕ} → Some a ≡ Some b → a ≡ b
some_is {a} {b} is = cc
