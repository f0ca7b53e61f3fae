-- A poll has an end, and no other.
use Rattle.std.proofs.Common.{◌≡◌, ℕ, refl, ap, arith, subst, ◌⊎◌, inl, inr}
use Rattle.std.proofs.Math.Decide.{dec_le}
use Rattle.oauth2_poll.specs.Trace.{PollInput, Ending, TooLong, OutOfRange, Late, Decided, Limited, IsEnding, IsReached, IsLate, Decides, GoesOn}
use Rattle.oauth2_poll.specs.Laws.{EachEndingIsTheOnlyOne}

module _ (p : PollInput) where
  -- something ends the poll in round n
  abbrev Ends : ℕ → Type 0
  Ends n = IsLate p n ⊎ (Decides p n ⊎ (n ≡ p.max_polls))

  stops : (n : ℕ) → GoesOn p n → Ends n → ⊥
  stops n g (inl late) = g.in_time late
  stops n g (inr (inl decides)) = g.open_answer decides
  stops n g (inr (inr limit)) = g.below limit

  -- two rounds in which it ends are one
  same_round : (m n : ℕ) → IsReached p m → IsReached p n → Ends m → Ends n → m ≡ n
  same_round m n rm rn em en =
      elim (dec_le n m) [
        | yes le ↦ elim (dec_le m n) [
          | yes ge ↦ omega (arith, le, ge)
          | no gt ↦ absurd (stops n (rm.earlier n rn.from_one (omega arith)) en)
        ]
        | no gt ↦ absurd (stops m (rn.earlier m rm.from_one (omega arith)) em)
      ]

  starts : (n : ℕ) → IsReached p n → IsEnding p OutOfRange → ⊥
  starts n r (fits, (start, first, beyond)) = beyond (r.in_range start first)

  same_ending : (e f : Ending) → IsEnding p e → IsEnding p f → e ≡ f
  same_ending TooLong TooLong x y = refl
  same_ending TooLong OutOfRange x y = absurd (x y.0)
  same_ending TooLong (Late n) x y = absurd (x y.0.fits)
  same_ending TooLong (Decided n) x y = absurd (x y.0.fits)
  same_ending TooLong (Limited n) x y = absurd (x y.0.fits)
  same_ending OutOfRange TooLong x y = absurd (y x.0)
  same_ending OutOfRange OutOfRange x y = refl
  same_ending OutOfRange (Late n) x y = absurd (starts n y.0 x)
  same_ending OutOfRange (Decided n) x y = absurd (starts n y.0 x)
  same_ending OutOfRange (Limited n) x y = absurd (starts n y.0 x)
  same_ending (Late m) TooLong x y = absurd (y x.0.fits)
  same_ending (Late m) OutOfRange x y = absurd (starts m x.0 y)
  same_ending (Late m) (Late n) x y = ap Late (same_round m n x.0 y.0 (inl x.1) (inl y.1))
  same_ending (Late m) (Decided n) x y = absurd (y.1 (subst (IsLate p) (same_round m n x.0 y.0 (inl x.1) (inr (inl y.2))) x.1))
  same_ending (Late m) (Limited n) x y = absurd (y.1 (subst (IsLate p) (same_round m n x.0 y.0 (inl x.1) (inr (inr y.3))) x.1))
  same_ending (Decided m) TooLong x y = absurd (y x.0.fits)
  same_ending (Decided m) OutOfRange x y = absurd (starts m x.0 y)
  same_ending (Decided m) (Late n) x y = absurd (x.1 (subst (IsLate p) (same_round n m y.0 x.0 (inl y.1) (inr (inl x.2))) y.1))
  same_ending (Decided m) (Decided n) x y = ap Decided (same_round m n x.0 y.0 (inr (inl x.2)) (inr (inl y.2)))
  same_ending (Decided m) (Limited n) x y = absurd (y.2 (subst (Decides p) (same_round m n x.0 y.0 (inr (inl x.2)) (inr (inr y.3))) x.2))
  same_ending (Limited m) TooLong x y = absurd (y x.0.fits)
  same_ending (Limited m) OutOfRange x y = absurd (starts m x.0 y)
  same_ending (Limited m) (Late n) x y = absurd (x.1 (subst (IsLate p) (same_round n m y.0 x.0 (inl y.1) (inr (inr x.3))) y.1))
  same_ending (Limited m) (Decided n) x y = absurd (x.2 (subst (Decides p) (same_round n m y.0 x.0 (inr (inl y.2)) (inr (inr x.3))) y.2))
  same_ending (Limited m) (Limited n) x y = ap Limited (same_round m n x.0 y.0 (inr (inr x.3)) (inr (inr y.3)))

pub each_ending_is_the_only_one : EachEndingIsTheOnlyOne
each_ending_is_the_only_one p ending other x y = same_ending p ending other x y
