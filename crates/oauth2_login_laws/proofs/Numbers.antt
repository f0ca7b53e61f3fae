-- The numbers of requests.
use Rattle.std.proofs.Common.{◌≡◌, ◌≢◌, ℕ, ◌+◌, ◌<◌, ◌≤◌, ◌==◌, List, [], ◌∷◌, Bool, cond, refl, ap, arith, ◌⊎◌, inl, inr}
use Rattle.std.proofs.lemmas.Bool.Decides.{eqb_tells}
use Rattle.oauth2_login_laws.specs.Event.{Event, Began, Asked, Refused, Ignored, Finished, Failed, Dropped, Standing, begin, after}
use Rattle.oauth2_login_laws.specs.Run.{IsRun, one_if_number, times_numbered}
use Rattle.oauth2_login_laws.specs.Laws.{EachRequestHasItsNumber}

counts : (n m : ℕ) → ((n ≡ m) × (one_if_number n m ≡ 1)) ⊎ ((n ≢ m) × (one_if_number n m ≡ 0))
counts n m =
    elim (eqb_tells n m) [
      | inl is ↦ inl (is.1, ap (λ (b : Bool). cond b 1 0) is.0)
      | inr fails ↦ inr (fails.1, ap (λ (b : Bool). cond b 1 0) fails.0)
    ]

-- a number that was given before is given to no request
none : (c : Standing) (events : List Event) (n : ℕ) → IsRun c events → n < c.requests → times_numbered n events ≡ 0
none c [] n run past = refl
none c (Began l ∷ events) n run past = none (after c (Began l)) events n run.1 past
none c (Asked r l o m q ∷ events) n run past =
    let later = none (after c (Asked r l o m q)) events n run.1 (omega (arith, past)) in
    let number = run.0.1 in
    elim (counts n m) [
      | inl is ↦ absurd (omega (arith, is.0, number, past))
      | inr fails ↦ omega (arith, fails.1, later)
    ]
none c (Refused r l ∷ events) n run past = none (after c (Refused r l)) events n run.1 past
none c (Ignored r ∷ events) n run past = none (after c (Ignored r)) events n run.1 past
none c (Finished m l t ∷ events) n run past = none (after c (Finished m l t)) events n run.1 past
none c (Failed m l ∷ events) n run past = none (after c (Failed m l)) events n run.1 past
none c (Dropped s ∷ events) n run past = none (after c (Dropped s)) events n run.1 past

once : (c : Standing) (events : List Event) (n : ℕ) → IsRun c events → times_numbered n events ≤ 1
once c [] n run = omega arith
once c (Began l ∷ events) n run = once (after c (Began l)) events n run.1
once c (Asked r l o m q ∷ events) n run =
    let number = run.0.1 in
    elim (counts n m) [
      | inl is ↦
          let later = none (after c (Asked r l o m q)) events n run.1 (omega (arith, is.0, number)) in
          omega (arith, is.1, later)
      | inr fails ↦
          let later = once (after c (Asked r l o m q)) events n run.1 in
          omega (arith, fails.1, later)
    ]
once c (Refused r l ∷ events) n run = once (after c (Refused r l)) events n run.1
once c (Ignored r ∷ events) n run = once (after c (Ignored r)) events n run.1
once c (Finished m l t ∷ events) n run = once (after c (Finished m l t)) events n run.1
once c (Failed m l ∷ events) n run = once (after c (Failed m l)) events n run.1
once c (Dropped s ∷ events) n run = once (after c (Dropped s)) events n run.1

pub each_request_has_its_number : EachRequestHasItsNumber
each_request_has_its_number events n run = once begin events n run
